-- How the end of a write or an erase of a partition is noted.
use Rattle.std.specs.Prelude.{◌≡◌, ℕ, Result, Ok, Err}
use Rattle.bus_hub.specs.declared.entry.Act.{Act}
use Rattle.bus_hub.specs.declared.entry.Act.TheVariants as acts
use Rattle.bus_hub.specs.declared.did.Did.{Did}
use Rattle.cache_gate.specs.Own.{Own, Adds}
use Rattle.flash_ops.specs.declared.refusal.OpNo.{OpNo}
use Rattle.flash_ops.specs.declared.refusal.OpNo.TheVariants as ops
use Rattle.flash_ops.specs.declared.refusal.StepNo.{StepNo}
use Rattle.flash_ops.specs.declared.refusal.StepNo.TheVariants as steps
use Rattle.duo_run.specs.Worker.{note, why_of}

-- what is noted of an end, or how the device ended it
abbrev pub end_act : Result (Unit {0}) OpNo → Result Act StepNo
end_act (Ok _) = Ok acts.Wrote
end_act (Err (ops.Barred why)) = Ok (acts.Refused (why_of why))
end_act (Err ops.Device) = Err steps.Device
end_act (Err ops.Cut) = Err steps.Cut

-- an end that was noted, or one by the device, of which nothing is
abbrev pub NotesEnd : {B : Type 0} → ℕ → Result Act StepNo → Result (Unit {0}) StepNo
    → Own B Did → Own B Did → Type 0
NotesEnd k (Ok act) r o o' = (r ≡ Ok tt) × Adds (note k o.regs act) o o'
NotesEnd k (Err refusal) r o o' = (r ≡ Err refusal) × (o' ≡ o)
