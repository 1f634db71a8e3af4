-- What the pace of an update is told.
use Rattle.std.specs.Prelude.{length}
use Rattle.flash_ops.specs.declared.pace.Point.{Point}
use Rattle.boot_run.specs.declared.aims.Aim.{Aim}
use Rattle.power_cut.specs.declared.outcome.Trial.{Trial}
use Rattle.power_cut.specs.Whole.{IsTrial}
use Rattle.duo_run.specs.Paced.{IsToldLeg, session_ops}
use Rattle.update_run.specs.declared.options.Options.{Options}
use Rattle.update_run.specs.Opening.{AimsIn, Opening}

-- of its session and of its confirmation, where nothing broke off in it, the pace was told of each
-- quiet period of the driver that has a step, and of each action of the script
pub record IsPaced (told : Point → Type 0) (options : Options) (o : Opening) (t : Trial)
    : Type 0 where
  pub aim : Aim
  pub aims : AimsIn o.flash o.layout (length o.image) aim
  pub legs : IsTrial
      (λ ran. IsToldLeg told (session_ops o.layout aim o.image) (length o.script) ran)
      (λ dev at write ran. IsToldLeg told 2 (length o.script) ran) o.layout o.flash aim o.image
      options.upto t
