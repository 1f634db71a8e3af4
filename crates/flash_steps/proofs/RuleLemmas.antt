-- A partition that may be changed.
use Rattle.std.proofs.Common.{◌≡◌, ℕ, zero, suc, ◌+◌, List, [], ◌∷◌, Bool, true, false, Option, Some, None, Ok, refl, sym, ap, subst, ◌∙◌, arith}
use Rattle.std.specs.Prelude.{◌==◌, nat_le}
use Rattle.std.specs.List.{AllByRecursion, slice_get}
use Rattle.std.specs.Option.{option_and_then}
use Rattle.std.proofs.lemmas.Bool.Decides.{nat_tests}
use Rattle.partition_table.specs.declared.row.Row.{Row}
use Rattle.partition_table.specs.Find.{row_of_label}
use Rattle.partition_table.specs.Rules.{FitsFlash, Stands, alignment_of, is_aligned, is_within}
use Rattle.flash_steps.specs.declared.refusal.PartNo.{PartNo}
use Rattle.flash_steps.specs.Rules.{IsOpenFor, IsPartOf, is_dangerous, open_row, opened, row_barred, row_named, unless}

-- what holds of each element holds of the one at a place
all_at : {A : Type 0} (P : A → Type 0) (xs : List A) (i : ℕ) (x : A) → AllByRecursion P xs
    → slice_get xs i ≡ Some x → P x
all_at P [] i x all is = absurd cc
all_at P (y ∷ xs) zero x all is = let same : y ≡ x = cc in subst P same all.0
all_at P (y ∷ xs) (suc i) x all is = all_at P xs i x all.1 is

-- a row that has passed has nothing against it
unless_means : (barred : Option PartNo) (row given : Row) → unless barred row ≡ Ok given
    → (barred ≡ None) × (row ≡ given)
unless_means None row given is = (refl, cc)
unless_means (Some why) row given is = absurd cc

-- a row that was opened is the one, with nothing against it
opened_means : (found : Option Row) (row : Row) → opened found ≡ Ok row
    → (found ≡ Some row) × (row_barred row ≡ None)
opened_means None row is = absurd cc
opened_means (Some first) row is =
    let both = unless_means (row_barred first) first row is in
    (ap Some both.1, sym (ap row_barred both.1) ∙ both.0)

-- so is the partition of a label
pub open_row-means : (rows : List Row) (label : List ℕ) (row : Row) → open_row label rows ≡ Ok row
    → (row_named label rows ≡ Some row) × (row_barred row ≡ None)
unfolding open_row
open_row-means rows label row is = opened_means (row_named label rows) row is

-- the partition of a label obeys the rules on rows
pub named_stands : (flash : ℕ) (rows : List Row) (label : List ℕ) (row : Row)
    → FitsFlash flash rows → row_named label rows ≡ Some row → Stands flash row
unfolding row_named
named_stands flash rows label row fits is = by (row_of_label label rows) is
  where
    by : (number : Option ℕ) → option_and_then (λ n. slice_get rows n) number ≡ Some row
        → Stands flash row
    by None is = absurd cc
    by (Some n) is = all_at (Stands flash) rows n row fits.each is

-- a partition that may be changed is no application
not_app : (row : Row) → row_barred row ≡ None → (row.kind == 0) ≡ false
unfolding row_barred is_dangerous
not_app row free = by (row.kind == 0) refl
  where
    by : (app : Bool) → (row.kind == 0) ≡ app → (row.kind == 0) ≡ false
    by true told = absurd (let no = rw told at free in cc)
    by false told = told

-- a range of a partition that may be changed
pub part_of : (flash : ℕ) (rows : List Row) (label : List ℕ) (offset length : ℕ) (row : Row)
    → FitsFlash flash rows → IsOpenFor rows label offset length row
    → IsPartOf flash offset length row
unfolding is_aligned is_within alignment_of
part_of flash rows label offset length row fits is =
    let stands = named_stands flash rows label row fits is.named in
    let other = not_app row is.free in
    let aligned = rw other at stands.aligned in
    record {
      behind = grind (arith, nat_tests, stands.within);
      inside = grind (arith, nat_tests, stands.within, is.inside);
      sector = grind (arith, nat_tests, aligned);
    }

-- a range inside a partition that may be changed
pub open_for : (rows : List Row) (label : List ℕ) (offset length : ℕ) (row : Row)
    → open_row label rows ≡ Ok row → nat_le (offset + length) row.size ≡ true
    → IsOpenFor rows label offset length row
open_for rows label offset length row is ends =
    let both = open_row-means rows label row is in
    record { named = both.0; free = both.1; inside = grind (arith, nat_tests) }
