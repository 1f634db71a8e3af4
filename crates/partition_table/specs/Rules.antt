-- The rules that the rows of a table obey in a flash of a given size.
use Rattle.std.specs.Prelude.{◌≡◌, ℕ, ◌+◌, ◌%◌, Bool, true, false, ◌&&◌, ◌||◌, not, ◌==◌, nat_lt, nat_le, List, [], ◌∷◌, Option, Some, None, if◌then◌else◌, ⊤}
use Rattle.std.specs.List.{AllByRecursion}
use Rattle.std.specs.Option.{option_map, option_or}
use Rattle.partition_table.specs.declared.row.Row.{Row}
use Rattle.partition_table.specs.declared.rules.PairRule.{PairRule}
use Rattle.partition_table.specs.declared.rules.PairRule.TheVariants as pair
use Rattle.partition_table.specs.declared.bad.TableBad.{TableBad}
use Rattle.partition_table.specs.declared.bad.TableBad.TheVariants.{Align, Range, Overlap, TwoOf}
use Rattle.partition_table.specs.First.{first_at, first_pair}

-- of what an offset is a multiple: 64 KiB for an application, and a sector for all else
unfoldable pub alignment_of : ℕ → ℕ
alignment_of kind = if kind == 0 then 0x10000 else 0x1000

-- whether a row begins at such a multiple, and its size is some sectors
unfoldable pub is_aligned : Row → Bool
is_aligned row =
    (row.offset % alignment_of row.kind == 0) && not (row.size == 0) && (row.size % 0x1000 == 0)

-- whether a row lies behind the table and ends inside a flash of this size
unfoldable pub is_within : ℕ → Row → Bool
is_within flash row = nat_le 0x9000 row.offset && nat_le (row.offset + row.size) flash

-- whether two rows have an address in common, where neither is empty
unfoldable pub ranges_meet : Row → Row → Bool
ranges_meet a b = nat_lt a.offset (b.offset + b.size) && nat_lt b.offset (a.offset + a.size)

-- whether a table has at most one row of this type and subtype: the factory application, each of the
-- sixteen update slots and the test application, and the OTA data
unfoldable pub is_single : ℕ → ℕ → Bool
is_single kind subtype =
    ((kind == 0) && ((subtype == 0) || (nat_le 0x10 subtype && nat_le subtype 0x20)))
    || ((kind == 1) && (subtype == 0))

-- whether two rows are of one such type and subtype
unfoldable pub are_two_of : Row → Row → Bool
are_two_of a b = (a.kind == b.kind) && (a.subtype == b.subtype) && is_single a.kind a.subtype

-- whether two rows break a rule on pairs
abbrev pub meets_of : PairRule → Row → Row → Bool
meets_of pair.Overlap a b = ranges_meet a b
meets_of pair.TwoOf a b = are_two_of a b

-- what is wrong with this row of a table by itself
unfoldable pub row_bad : ℕ → ℕ → Row → Option TableBad
row_bad flash i row =
    if not (is_aligned row) then Some (Align i)
    else (if not (is_within flash row) then Some (Range i) else None)

-- the first rule that rows break: on each row by itself, then on ranges, then on types
unfoldable pub rows_bad : ℕ → List Row → Option TableBad
rows_bad flash rows =
    option_or (first_at (row_bad flash) 0 rows)
    (option_or (option_map (λ p. Overlap p.0 p.1) (first_pair (meets_of pair.Overlap) 0 rows))
    (option_map (λ p. TwoOf p.0 p.1) (first_pair (meets_of pair.TwoOf) 0 rows)))

-- a relation holds of each two elements, the earlier one first
abbrev pub AllPairs : {A : Type 0} → (A → A → Type 0) → List A → Type 0
AllPairs P [] = ⊤
AllPairs P (x ∷ xs) = AllByRecursion (P x) xs × AllPairs P xs

-- a row obeys the rules on rows by themselves in a flash of this size
pub record Stands (flash : ℕ) (row : Row) : Type 0 where
  pub aligned : is_aligned row ≡ true
  pub within : is_within flash row ≡ true

-- rows obey the rules of a flash of this size
pub record FitsFlash (flash : ℕ) (rows : List Row) : Type 0 where
  pub each : AllByRecursion (Stands flash) rows
  pub apart : AllPairs (λ a b. ranges_meet a b ≡ false) rows
  pub single : AllPairs (λ a b. are_two_of a b ≡ false) rows
