-- What the pace of an update was told, by its legs.
use Rattle.std.proofs.Common.{◌≡◌, ℕ, List, length, Result, Ok, Err, subst}
use Rattle.std.specs.Prelude.{IfOk}
use Rattle.nor_device.specs.Ram.{Ram}
use Rattle.crash_images.specs.Cut.{CutDevice}
use Rattle.flash_ops.specs.declared.pace.Point.{Point}
use Rattle.power_cut.specs.declared.outcome.Trial.{Trial}
use Rattle.power_cut.specs.Whole.{IsTrial}
use Rattle.duo_run.specs.Paced.{IsToldLeg, session_ops}
use Rattle.update_run.specs.declared.opening.Opening.{Opening as CodeOpening}
use Rattle.update_run.specs.declared.options.Options.{Options}
use Rattle.update_run.specs.Opening.{IsBegun, opening_with}
use Rattle.update_run.specs.Paced.{IsPaced}

-- by the legs that were made on a device with the flash
pub paced_legs : {E : Type 0} (told : Point → Type 0) (options : Options) (o : CodeOpening)
    (image : List ℕ) (dev : CutDevice Ram) (r : Result Trial E) → IsBegun image o
    → dev.inner.bytes ≡ o.flash.items
    → IfOk r (λ t. IsTrial
    (λ ran. IsToldLeg told (session_ops o.layout o.aim image) (length o.script) ran)
    (λ d at write ran. IsToldLeg told 2 (length o.script) ran) o.layout dev.inner.bytes o.aim image
    options.upto t)
    → IfOk r (IsPaced told options (opening_with image o))
paced_legs told options o image dev (Ok t) begun same is = record {
  aim = o.aim;
  aims = begun.aims;
  legs = subst (λ (bytes : List ℕ). IsTrial
      (λ ran. IsToldLeg told (session_ops o.layout o.aim image) (length o.script) ran)
      (λ d at write ran. IsToldLeg told 2 (length o.script) ran) o.layout bytes o.aim image
      options.upto t) same is;
}
paced_legs told options o image dev (Err why) begun same is = tt
