-- What the pace of an update was told, by its files.
use Rattle.std.proofs.Common.{◌≡◌, ℕ, List, Option, Some, Result, Ok, Err, sym, ap}
use Rattle.std.specs.Prelude.{IfOk}
use Rattle.pipe_ends.specs.Store.{Files}
use Rattle.flash_ops.specs.declared.pace.Point.{Point}
use Rattle.power_cut.specs.declared.outcome.Trial.{Trial}
use Rattle.flash_cli.specs.UpdateWords.{Update}
use Rattle.flash_cli.specs.Reading.{TellsAnswer}
use Rattle.flash_cli.specs.Paced.{IsPacedUpdate, PacedOf}

-- by the files that were read
pub paced_came : {E : Type 0} (told : Point → Type 0) (files : Option Files) (u : Update)
    (flash image text : List ℕ) (r : Result Trial E) → TellsAnswer files u.flash (Some flash)
    → TellsAnswer files u.image (Some image) → TellsAnswer files u.script (Some text)
    → IfOk r (PacedOf told flash image text u.options) → IfOk r (IsPacedUpdate told files u)
paced_came told files u flash image text (Ok t) a b c is = record {
  o = is.0;
  comes = (Some flash, (a, (Some image, (b, (Some text, (c, ap Ok (sym is.1)))))));
  paced = is.2;
}
paced_came told files u flash image text (Err why) a b c is = tt
