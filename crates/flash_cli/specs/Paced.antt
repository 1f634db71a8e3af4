-- What the pace of an update is told.
use Rattle.std.specs.Prelude.{◌≡◌, ℕ, List, Option, Ok}
use Rattle.pipe_ends.specs.Store.{Files}
use Rattle.flash_ops.specs.declared.pace.Point.{Point}
use Rattle.power_cut.specs.declared.outcome.Trial.{Trial}
use Rattle.update_run.specs.declared.options.Options.{Options}
use Rattle.update_run.specs.Opening.{Opening}
use Rattle.update_run.specs.Paced.{IsPaced}
use Rattle.flash_cli.specs.Unbegun.{opening_or_refusal}
use Rattle.flash_cli.specs.UpdateWords.{Update}
use Rattle.flash_cli.specs.Reading.{ComesTo}
use Rattle.flash_cli.specs.Updating.{update_reading}

-- of the update of these files the pace was told of each quiet period and of each action
abbrev pub PacedOf : (Point → Type 0) → List ℕ → List ℕ → List ℕ → Options → Trial → Type 0
PacedOf told flash image text options t =
    (o : Opening) × (opening_or_refusal flash image text ≡ Ok o) × IsPaced told options o t

-- and of one on files of which this is told
pub record IsPacedUpdate (told : Point → Type 0) (files : Option Files) (u : Update) (t : Trial)
    : Type 0 where
  pub o : Opening
  pub comes : ComesTo files 0 (update_reading u) (Ok (Ok o))
  pub paced : IsPaced told u.options o t
