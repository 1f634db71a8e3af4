-- A flash whose changed bytes are copied back is the one before.
use Rattle.std.proofs.Common.{◌≡◌, inl, inr, true, false, ℕ, ◌+◌, ◌≤◌, List, length, drop, ap, arith}
use Rattle.std.specs.List.{list_any}
use Rattle.std.specs.Option.{is_none}
use Rattle.std.proofs.lemmas.Bool.{cases_lt}
use Rattle.std.proofs.lemmas.Bool.Decides.{nat_tests}
use Rattle.std.proofs.lemmas.List.{ext_get_or}
use Rattle.std.proofs.Math.ListN.{drop_of_length-le}
use Rattle.crash_images.specs.Agrees.{Agrees}
use Rattle.partition_table.specs.declared.row.Row.{Row}
use Rattle.flash_steps.specs.Parts.{has_address, is_open_at, open_addresses}
use Rattle.flash_steps.specs.Rules.{row_barred}
use Rattle.update_steps.specs.Beside.{IsSpared}
use Rattle.power_cut.specs.Restoring.{IsCopied, IsRestored}

-- ---- a partition

-- a partition that may be written to is copied
pub open_restored : (flash : List ℕ) (row : Row) (old new : List ℕ)
    → is_none (row_barred row) ≡ true
    → IsCopied flash row.offset (row.offset + row.size) old new → IsRestored flash row old new
unfolding has_address
open_restored flash row old new free is = record {
  size = is.size;
  inside = λ i here test.
      is.inside i here (grind (arith, nat_tests, test, free)) (grind (arith, nat_tests, test, free));
  beside = λ i here test. elim (cases_lt i row.offset) [
    | inl low ↦ is.beside i here (inl low)
    | inr from ↦ elim (cases_lt i (row.offset + row.size)) [
      | inl to ↦ absurd (let t = test in grind (arith, nat_tests, t, free, from, to))
      | inr past ↦ is.beside i here (inr past)
    ]
  ];
}

-- ---- the partitions of a table

-- the flashes agree beside those of these partitions that may be written to
abbrev pub AgreesBesideRows : List Row → List ℕ → List ℕ → Type 0
AgreesBesideRows rows = Agrees (λ i. list_any (is_open_at i) rows ≡ false)

-- so do they at the begin
pub beside_rows : (rows : List Row) (flash bytes : List ℕ)
    → Agrees (IsSpared (open_addresses rows)) flash bytes → AgreesBesideRows rows flash bytes
unfolding open_addresses
beside_rows rows flash bytes agrees = agrees

-- once all are copied back, it is the same flash
pub rows_restored : (rows : List Row) (i : ℕ) (flash bytes : List ℕ) → length rows ≤ i
    → AgreesBesideRows (drop i rows) flash bytes → bytes ≡ flash
rows_restored rows n flash bytes past agrees =
    ext_get_or 0 bytes flash agrees.same_length
    (λ i here. agrees.byte i (omega (arith, here, agrees.same_length))
    (ap (list_any (is_open_at i)) (drop_of_length-le rows past)))
