-- What a confirmation and a rejection of a flash come to.
use Rattle.std.specs.Prelude.{◌≡◌, ℕ, List, length, Option, Some, Result, Ok, Err}
use Rattle.nor_device.specs.Flash.{after_steps}
use Rattle.partition_table.specs.declared.app.App.{App}
use Rattle.partition_table.specs.Layout.{Places}
use Rattle.boot_select.specs.Boots.{entries_in, names}
use Rattle.rollback.specs.declared.rewrite.Rewrite.{Rewrite}
use Rattle.boot_run.specs.declared.told.Told.{Told}
use Rattle.boot_run.specs.Rewriting.{rewrites}
use Rattle.boot_run.specs.Verdict.{Tells}
use Rattle.flash_text.specs.declared.refusal.Refusal.{Refusal}
use Rattle.flash_cli.specs.declared.verdict.Judged.{Judged as CodeJudged}

-- a flash of which an application was confirmed or rejected: which one, how many steps were made,
-- and the flash that they leave
pub record Judged : Type 0 where
  pub app : App
  pub steps : ℕ
  pub flash : List ℕ

-- the same of the code
abbrev pub shown_judged : CodeJudged → Judged
shown_judged judged = record { app = judged.app; steps = judged.steps; flash = judged.flash.items }

-- a flash once these rewrites of its OTA data are made, with the application that they named
-- before; or the refusal
abbrev pub judged_by : {E : Type 0} → (E → Refusal) → List ℕ → Places → Result (List Rewrite) E
    → Result Judged Refusal
judged_by refusal flash layout (Ok writes) = Ok (record {
  app = names layout (entries_in layout flash);
  steps = length (rewrites layout.otadata writes);
  flash = after_steps flash (rewrites layout.otadata writes);
})
judged_by refusal flash layout (Err why) = Err (refusal why)

-- On a device with this flash the rewrites were made, and this was told.
pub record IsTold (layout : Places) (flash : List ℕ) (now : Option (List ℕ)) (writes : List Rewrite)
    (told : Told) : Type 0 where
  pub tells : Tells layout.otadata (names layout (entries_in layout flash)) writes told
  pub left : now ≡ Some (after_steps flash (rewrites layout.otadata writes))

-- the rewrites were made on a device with this flash, or refused
abbrev pub VerdictEnds : {E : Type 0} → (E → Refusal) → Places → List ℕ → Option (List ℕ)
    → Result (List Rewrite) E → Result Told Refusal → Type 0
VerdictEnds refusal layout flash now (Ok writes) (Ok told) = IsTold layout flash now writes told
VerdictEnds refusal layout flash now (Ok writes) (Err why) = ⊥
VerdictEnds refusal layout flash now (Err reason) (Ok told) = ⊥
VerdictEnds refusal layout flash now (Err reason) (Err why) = why ≡ refusal reason
