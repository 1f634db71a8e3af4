-- What the command `reject FLASH OUT` comes to.
use Rattle.std.specs.Prelude.{ℕ, List, [], ◌∷◌, Result, Ok, Err}
use Rattle.partition_table.specs.Layout.{Places}
use Rattle.boot_select.specs.Boots.{entries_in}
use Rattle.rollback.specs.declared.verdict.RejectNo.{RejectNo}
use Rattle.rollback.specs.declared.verdict.RejectNo.TheVariants as no
use Rattle.boot_run.specs.Read.{whole_in}
use Rattle.boot_run.specs.Verdict.{rejection}
use Rattle.flash_text.specs.declared.refusal.Refusal.{Refusal}
use Rattle.flash_text.specs.declared.refusal.Refusal.TheVariants.{NoOtaApp, NothingElse}
use Rattle.flash_text.specs.BootText.{rejected_lines}
use Rattle.flash_cli.specs.Answer.{Answer}
use Rattle.flash_cli.specs.Laid.{laid}
use Rattle.flash_cli.specs.Verdict.{Judged, judged_by}

-- the refusal of a rejection as one of the command
abbrev pub reject_refusal : RejectNo → Refusal
reject_refusal no.NoOtaApp = NoOtaApp
reject_refusal no.NothingElse = NothingElse

-- what a rejection makes of a flash with this layout
unfoldable pub rejected_in : List ℕ → Places → Result Judged Refusal
rejected_in flash layout =
    judged_by reject_refusal flash layout
    (rejection layout (whole_in layout flash) (entries_in layout flash))

-- what a rejection makes of a flash by its layout, where it has one
abbrev pub rejected_from : List ℕ → Result Places Refusal → Result Judged Refusal
rejected_from flash (Ok layout) = rejected_in flash layout
rejected_from flash (Err why) = Err why

-- the answer of the command with a flash: the file with it, and what was rejected
abbrev pub answer_of_rejected : List ℕ → Result Judged Refusal → Result Answer Refusal
answer_of_rejected out (Ok judged) = Ok (record {
  text = rejected_lines judged.app judged.steps;
  puts = (out, judged.flash) ∷ [];
})
answer_of_rejected out (Err why) = Err why

-- what the command comes to on a flash
abbrev pub reject_answer : List ℕ → List ℕ → Result Answer Refusal
reject_answer flash out = answer_of_rejected out (rejected_from flash (laid flash))
