-- A device of which no step is chosen makes each step whole, and refuses no call.
use Rattle.std.proofs.Common.{◌≡◌, ℕ, Option, None, refl}
use Rattle.nor_device.specs.declared.step.Step.{Step}
use Rattle.nor_device.specs.declared.nor.StepEnd.{StepEnd}
use Rattle.nor_device.specs.declared.nor.StepEnd.TheVariants as ends
use Rattle.nor_device.specs.declared.nor.NorFault.{NorFault}
use Rattle.nor_device.specs.declared.nor.NorFault.TheVariants as faults
use Rattle.nor_device.specs.Nor.{end_by}
use Rattle.crash_images.specs.declared.cut.Health.{Health}
use Rattle.crash_images.specs.declared.cut.Health.TheVariants.{Sound, Due, Off, Failed}
use Rattle.crash_images.specs.Cut.{EndsBy, running_by}

-- where no step is chosen, each ends whole
pub ends_whole : (n : ℕ) (end : StepEnd) → EndsBy None None n end → end ≡ ends.Done
ends_whole n ends.Done is = refl
ends_whole n ends.Cut is = absurd (cc is)
ends_whole n ends.Failed is = absurd (cc is)

-- and no call is refused
pub none_refused : (n : ℕ) (why : NorFault) → EndsBy None None n (end_by why) → ⊥
none_refused n faults.Failed is = cc is
none_refused n faults.Off is = cc is

-- where no step runs, none runs inside
pub idle_inside : (health : Health) (inner : Option Step) → running_by health inner ≡ None
    → inner ≡ None
idle_inside Sound inner is = is
idle_inside (Due step) inner is = absurd (cc is)
idle_inside Off inner is = is
idle_inside Failed inner is = is
