use Rattle.std.proofs.Common.{◌≡◌, ◌<◌, ℕ, None, Some}
use Rattle.std.specs.Prelude.{slice_get}
use Rattle.partition_table.specs.declared.row.Row.{Row}
use Rattle.flash_steps.specs.Parts.{LiesInPart}
use Rattle.flash_steps.specs.Rules.{row_barred}
use Rattle.flash_steps.proofs.parts.is_open.Given as goal

-- the step lies in none of the rows so far that may be changed
abbrev pub invariant-loop-row : goal.invariant-loop-row
invariant-loop-row l = (i : ℕ) (row : Row) → i < l.row-index → slice_get l.rows i ≡ Some row
    → row_barred row ≡ None → ¬ LiesInPart row l.step
