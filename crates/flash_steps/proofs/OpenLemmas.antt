-- Steps in partitions that may be changed, and the addresses that they change.
use Rattle.std.proofs.Common.{◌≡◌, ◌≤◌, ◌<◌, ℕ, zero, suc, ◌+◌, Bool, true, false, List, [], ◌∷◌, length, Option, Some, None, Result, Ok, Err, refl, sym, subst, arith}
use Rattle.std.specs.Prelude.{nat_le, nat_lt, ◌||◌}
use Rattle.std.specs.List.{AllByRecursion, Contains, list_any, slice_get}
use Rattle.std.specs.Option.{is_none, option_and_then}
use Rattle.std.proofs.lemmas.Bool.{and_parts}
use Rattle.std.proofs.lemmas.Bool.Decides.{nat_tests}
use Rattle.nor_device.specs.declared.step.Step.{Step}
use Rattle.nor_device.specs.Flash.{end_of, start_of}
use Rattle.partition_table.specs.declared.row.Row.{Row}
use Rattle.partition_table.specs.Find.{row_of_label}
use Rattle.partition_table.specs.Rules.{FitsFlash}
use Rattle.flash_steps.specs.declared.refusal.PartNo.{PartNo}
use Rattle.flash_steps.specs.Parts.{IsOpenAddress, LiesInOpenPart, LiesInPart, has_address, is_open_at, open_addresses, part_erase_steps, part_write_steps, steps_in}
use Rattle.flash_steps.specs.Rules.{erase_checked, row_barred, row_named, write_checked}
use Rattle.flash_steps.specs.Steps.{erase_steps, write_steps}
use Rattle.flash_steps.proofs.PartLemmas.{erase_inside, erase_open, write_inside, write_open}

-- ---- rows among others

-- the row at a place is among the rows
pub among_at : (rows : List Row) (n : ℕ) (row : Row) → slice_get rows n ≡ Some row
    → Contains rows row
among_at [] n row is = absurd cc
among_at (first ∷ rows) zero row is = (0, omega arith, cc)
among_at (first ∷ rows) (suc n) row is =
    let more = among_at rows n row is in (suc more.0, omega (arith, more.1), more.2)

-- so is the partition of a label
pub among_named : (rows : List Row) (label : List ℕ) (row : Row) → row_named label rows ≡ Some row
    → Contains rows row
unfolding row_named
among_named rows label row is = by (row_of_label label rows) is
  where
    by : (number : Option ℕ) → option_and_then (λ n. slice_get rows n) number ≡ Some row
        → Contains rows row
    by None is = absurd cc
    by (Some n) is = among_at rows n row is

-- a row that passes a test tells that one does
any_from : (test : Row → Bool) (rows : List Row) (row : Row) → Contains rows row
    → test row ≡ true → list_any test rows ≡ true
any_from test [] row among is = absurd (omega (arith, among.1))
any_from test (first ∷ rows) row (zero, inside, here) is =
    let same : test first ≡ true = subst (λ r. test r ≡ true) (sym here) is in
    grind (arith, same)
any_from test (first ∷ rows) row (suc n, inside, here) is =
    let more = any_from test rows row (n, omega (arith, inside), here) is in
    grind (arith, more)

-- where one passes, there is such a row
from_any : (test : Row → Bool) (rows : List Row) → list_any test rows ≡ true
    → (row : Row) × Contains rows row × (test row ≡ true)
from_any test [] is = absurd cc
from_any test (first ∷ rows) is = by (test first) refl is (λ more. from_any test rows more)
  where
    by : (b : Bool) → test first ≡ b → (b || list_any test rows) ≡ true
        → (list_any test rows ≡ true → (row : Row) × Contains rows row × (test row ≡ true))
        → (row : Row) × Contains (first ∷ rows) row × (test row ≡ true)
    by true told is more = (first, (0, omega arith, refl), told)
    by false told is more =
        let later = more is in
        (later.0, (suc later.1.0, omega (arith, later.1.1), later.1.2), later.2)

-- ---- steps

-- the steps in a partition that may be changed
in_open : (rows : List Row) (row : Row) → Contains rows row → row_barred row ≡ None
    → (steps : List Step) → AllByRecursion (LiesInPart row) steps
    → AllByRecursion (LiesInOpenPart rows) steps
in_open rows row among free [] all = tt
in_open rows row among free (step ∷ steps) all = (
  record { row = row; among = among; free = free; inside = all.0 },
  in_open rows row among free steps all.1,
)

-- those of a write are
pub write_in_open : (rows : List Row) (label : List ℕ) (offset : ℕ) (bytes : List ℕ)
    → AllByRecursion (LiesInOpenPart rows) (part_write_steps rows label offset bytes)
unfolding part_write_steps
write_in_open rows label offset bytes = by (write_checked rows label offset (length bytes)) refl
  where
    by : (found : Result Row PartNo) → write_checked rows label offset (length bytes) ≡ found
        → AllByRecursion (LiesInOpenPart rows)
        (steps_in found (λ row. write_steps (row.offset + offset) bytes))
    by (Err why) told = tt
    by (Ok row) told =
        let free = write_open rows label offset (length bytes) row told in
        let inside = write_inside rows label offset bytes row told in
        in_open rows row (among_named rows label row free.named) free.free
        (write_steps (row.offset + offset) bytes) (rw told at inside)

-- so are those of an erase
pub erase_in_open : (flash : ℕ) (rows : List Row) (label : List ℕ) (offset len : ℕ)
    → FitsFlash flash rows
    → AllByRecursion (LiesInOpenPart rows) (part_erase_steps rows label offset len)
unfolding part_erase_steps
erase_in_open flash rows label offset len fits = by (erase_checked rows label offset len) refl
  where
    by : (found : Result Row PartNo) → erase_checked rows label offset len ≡ found
        → AllByRecursion (LiesInOpenPart rows)
        (steps_in found (λ row. erase_steps (row.offset + offset) len))
    by (Err why) told = tt
    by (Ok row) told =
        let free = (erase_open rows label offset len row told).0 in
        let inside = erase_inside flash rows label offset len row fits told in
        in_open rows row (among_named rows label row free.named) free.free
        (erase_steps (row.offset + offset) len) (rw told at inside)

-- ---- addresses

none_by : (barred : Option PartNo) → is_none barred ≡ true → barred ≡ None
none_by None is = refl
none_by (Some why) is = absurd cc

-- an address that lies in an open partition is one of them
pub address_open : (rows : List Row) (at : ℕ) → IsOpenAddress rows at
    → open_addresses rows at ≡ true
unfolding open_addresses has_address
address_open rows at is = any_from (is_open_at at) rows is.row is.among
    (let free = is.free in let from = is.from in let to = is.to in
    rw free (grind (arith, nat_tests, from, to)))

-- and the other way round
pub open_address : (rows : List Row) (at : ℕ) → open_addresses rows at ≡ true
    → IsOpenAddress rows at
unfolding open_addresses has_address
open_address rows at is =
    let found = from_any (is_open_at at) rows is in
    let both = and_parts (is_none (row_barred found.0)) (has_address at found.0) found.2 in
    let ends = and_parts (nat_le found.0.offset at) (nat_lt at (found.0.offset + found.0.size)) both.1
    in
    record {
      row = found.0;
      among = found.1;
      free = none_by (row_barred found.0) both.0;
      from = grind (arith, nat_tests, ends.0);
      to = grind (arith, nat_tests, ends.1);
    }

-- a step in an open partition changes open addresses alone
pub step_open : (rows : List Row) (step : Step) → LiesInOpenPart rows step → (at : ℕ)
    → start_of step ≤ at → at < end_of step → open_addresses rows at ≡ true
step_open rows step lies at from to = address_open rows at (record {
  row = lies.row;
  among = lies.among;
  free = lies.free;
  from = omega (arith, lies.inside.0, from);
  to = omega (arith, lies.inside.1, to);
})
