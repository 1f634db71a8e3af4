-- What the command `confirm FLASH OUT` comes to.
use Rattle.std.specs.Prelude.{ℕ, List, [], ◌∷◌, Result, Ok, Err}
use Rattle.partition_table.specs.Layout.{Places}
use Rattle.boot_select.specs.Boots.{entries_in}
use Rattle.rollback.specs.declared.verdict.NoOtaApp.{NoOtaApp}
use Rattle.boot_run.specs.Verdict.{confirmation}
use Rattle.flash_text.specs.declared.refusal.Refusal.{Refusal}
use Rattle.flash_text.specs.declared.refusal.Refusal.TheVariants.{NoOtaApp as NothingToConfirm}
use Rattle.flash_text.specs.BootText.{confirmed_lines}
use Rattle.flash_cli.specs.Answer.{Answer}
use Rattle.flash_cli.specs.Laid.{laid}
use Rattle.flash_cli.specs.Verdict.{Judged, judged_by}

-- the refusal of a confirmation as one of the command
abbrev pub confirm_refusal : NoOtaApp → Refusal
confirm_refusal why = NothingToConfirm

-- what a confirmation makes of a flash with this layout
unfoldable pub confirmed_in : List ℕ → Places → Result Judged Refusal
confirmed_in flash layout =
    judged_by confirm_refusal flash layout (confirmation (entries_in layout flash))

-- what a confirmation makes of a flash by its layout, where it has one
abbrev pub confirmed_from : List ℕ → Result Places Refusal → Result Judged Refusal
confirmed_from flash (Ok layout) = confirmed_in flash layout
confirmed_from flash (Err why) = Err why

-- the answer of the command with a flash: the file with it, and what was confirmed
abbrev pub answer_of_confirmed : List ℕ → Result Judged Refusal → Result Answer Refusal
answer_of_confirmed out (Ok judged) = Ok (record {
  text = confirmed_lines judged.app judged.steps;
  puts = (out, judged.flash) ∷ [];
})
answer_of_confirmed out (Err why) = Err why

-- what the command comes to on a flash
abbrev pub confirm_answer : List ℕ → List ℕ → Result Answer Refusal
confirm_answer flash out = answer_of_confirmed out (confirmed_from flash (laid flash))
