-- The partitions of a table that may be changed are apart from all that a boot reads.
use Rattle.std.proofs.Common.{◌≡◌, ◌≤◌, ◌<◌, ℕ, zero, suc, ◌+◌, Bool, true, false, List, [], ◌∷◌, length, drop, take, Option, Some, None, Ok, refl, sym, ap, subst, ◌∙◌, arith}
use Rattle.std.specs.Prelude.{◌==◌, ◌&&◌, ◌||◌, if◌then◌else◌, nat_le, nat_lt}
use Rattle.std.specs.List.{AllByRecursion, find, list_any, slice_get}
use Rattle.std.specs.Option.{is_none}
use Rattle.std.proofs.lemmas.Bool.{and_parts}
use Rattle.std.proofs.lemmas.Bool.Decides.{nat_tests}
use Rattle.nor_device.specs.declared.step.Step.{Step}
use Rattle.nor_device.specs.Torn.{Torn}
use Rattle.partition_table.specs.declared.app.App.{App}
use Rattle.partition_table.specs.declared.app.App.TheVariants.{Ota, Factory, Test}
use Rattle.partition_table.specs.declared.row.Row.{Row}
use Rattle.partition_table.specs.Rules.{AllPairs, FitsFlash, Stands, is_within, ranges_meet}
use Rattle.partition_table.specs.Layout.{Places, is_of, layout_in, layout_of, row_for, row_with, slots_from, with_slot}
use Rattle.partition_table.specs.Table.{table_of}
use Rattle.partition_table.proofs.LayoutLemmas.{IsLayout, layout_of-means}
use Rattle.flash_steps.specs.Rules.{is_dangerous, row_barred}
use Rattle.flash_steps.specs.Parts.{LiesInOpenPart, has_address, is_open_at, open_addresses}
use Rattle.flash_steps.proofs.OpenLemmas.{step_open}
use Rattle.update_steps.specs.Beside.{IsApart, StandsBeside}
use Rattle.update_steps.proofs.BesideLemmas.{beside_other}
use Rattle.update_steps.proofs.TableLemmas.{layout_is, table_fits}

-- ---- rows that may not be changed

-- an application's row may not
app_barred : (subtype : ℕ) (row : Row) → is_of 0 subtype row ≡ true
    → is_none (row_barred row) ≡ false
unfolding is_of row_barred is_dangerous
app_barred subtype row is =
    let both = and_parts (row.kind == 0) (row.subtype == subtype) is in rw both.0 refl

-- nor that of the OTA data
otadata_barred : (row : Row) → is_of 1 0 row ≡ true → is_none (row_barred row) ≡ false
unfolding is_of row_barred is_dangerous
otadata_barred row is =
    let both = and_parts (row.kind == 1) (row.subtype == 0) is in
    let kind : row.kind ≡ 1 = grind (arith, nat_tests, both.0) in
    rw (kind, both.1) refl

-- ---- addresses that are not open

-- an address below a row is not in it
below : (flash at : ℕ) (row : Row) → Stands flash row → at < 0x9000 → is_open_at at row ≡ false
unfolding has_address is_within
below flash at row stands low = by (is_none (row_barred row)) (nat_le row.offset at) past
  where
    past : nat_le row.offset at ≡ false
    past = let within = stands.within in grind (arith, nat_tests, within)

    by : (free from : Bool) → from ≡ false
        → (free && (from && nat_lt at (row.offset + row.size))) ≡ false
    by true false is = refl
    by false from is = refl
    by true true is = absurd cc

-- so no address below all rows is open
none_below : (flash at : ℕ) (rows : List Row) → AllByRecursion (Stands flash) rows → at < 0x9000
    → list_any (is_open_at at) rows ≡ false
none_below flash at [] all low = refl
none_below flash at (row ∷ rows) all low =
    rw (below flash at row all.0 low) (none_below flash at rows all.1 low)

-- an address of a row is not in one that it doesn't meet
elsewhere : (at : ℕ) (row other : Row) → ranges_meet row other ≡ false → row.offset ≤ at
    → at < row.offset + row.size → is_open_at at other ≡ false
unfolding has_address ranges_meet
elsewhere at row other apart from to = by (is_none (row_barred other))
  where
    out : (nat_le other.offset at && nat_lt at (other.offset + other.size)) ≡ false
    out = grind (arith, nat_tests, apart)

    by : (free : Bool)
        → (free && (nat_le other.offset at && nat_lt at (other.offset + other.size))) ≡ false
    by true = out
    by false = refl

-- nor in any of several
elsewhere_all : (at : ℕ) (row : Row) (rows : List Row)
    → AllByRecursion (λ other. ranges_meet row other ≡ false) rows → row.offset ≤ at
    → at < row.offset + row.size → list_any (is_open_at at) rows ≡ false
elsewhere_all at row [] all from to = refl
elsewhere_all at row (other ∷ rows) all from to =
    rw (elsewhere at row other all.0 from to) (elsewhere_all at row rows all.1 from to)

-- rows do not meet the other way round either
flipped : (a b : Row) → ranges_meet a b ≡ false → ranges_meet b a ≡ false
unfolding ranges_meet
flipped a b none = grind (arith, nat_tests)

-- what all rows have, the one that is found has
found_has : (P : Row → Type 0) (test : Row → Bool) (rows : List Row) (row : Row)
    → AllByRecursion P rows → find test rows ≡ Some row → P row
found_has P test [] row all is = absurd cc
found_has P test (first ∷ rows) row all is =
    by (test first) is (λ later. found_has P test rows row all.1 later)
  where
    by : (b : Bool) → (if b then Some first else find test rows) ≡ Some row
        → (find test rows ≡ Some row → P row) → P row
    by true e more = let same : first ≡ row = cc in subst P same all.0
    by false e more = more e

-- of rows that don't meet, no address of one that is found is open, if such rows may not be changed
found_barred : (at : ℕ) (test : Row → Bool)
    → ((row : Row) → test row ≡ true → is_none (row_barred row) ≡ false) → (rows : List Row)
    → AllPairs (λ a b. ranges_meet a b ≡ false) rows → (row : Row) → find test rows ≡ Some row
    → row.offset ≤ at → at < row.offset + row.size → list_any (is_open_at at) rows ≡ false
found_barred at test barred [] apart row is from to = refl
found_barred at test barred (first ∷ rows) apart row is from to =
    by (test first) refl is
    (λ later. found_barred at test barred rows apart.1 row later from to)
  where
    by : (b : Bool) → test first ≡ b → (if b then Some first else find test rows) ≡ Some row
        → (find test rows ≡ Some row → list_any (is_open_at at) rows ≡ false)
        → (is_open_at at first || list_any (is_open_at at) rows) ≡ false
    by true told e more =
        let same : first ≡ row = cc in
        let others = subst (λ r. AllByRecursion (λ other. ranges_meet r other ≡ false) rows) same
        apart.0 in
        rw (barred first told) (elsewhere_all at row rows others from to)
    by false told e more =
        let meets = found_has (λ other. ranges_meet first other ≡ false) test rows row apart.0 e in
        rw (elsewhere at row first (flipped first row meets) from to) (more e)

-- ---- the parts of a layout

-- the row of an update slot is one of its subtype
slot_found : (n k slot : ℕ) (rows : List Row) (row : Row)
    → slice_get (slots_from n k rows) slot ≡ Some row
    → (subtype : ℕ) × (row_with 0 subtype rows ≡ Some row)
unfolding slots_from
slot_found zero k slot rows row is = absurd cc
slot_found (suc n) k slot rows row is = by (row_with 0 (0x10 + k) rows) refl slot is
    (λ j e. slot_found n (k + 1) j rows row e)
  where
    by : (o : Option Row) → row_with 0 (0x10 + k) rows ≡ o → (j : ℕ)
        → slice_get (with_slot o (slots_from n (k + 1) rows)) j ≡ Some row
        → ((m : ℕ) → slice_get (slots_from n (k + 1) rows) m ≡ Some row
        → (subtype : ℕ) × (row_with 0 subtype rows ≡ Some row))
        → (subtype : ℕ) × (row_with 0 subtype rows ≡ Some row)
    by None told j e more = absurd cc
    by (Some first) told zero e more = (0x10 + k, told ∙ cc)
    by (Some first) told (suc j) e more = more j e

-- so is that of each application
app_found : (rows : List Row) (layout : Places) → IsLayout rows layout → (app : App) (row : Row)
    → row_for layout app ≡ Some row → (subtype : ℕ) × (row_with 0 subtype rows ≡ Some row)
app_found rows layout is (Ota slot) row e =
    slot_found 16 0 slot rows row (ap (λ (s : List Row). slice_get s slot) (sym is.slots) ∙ e)
app_found rows layout is Factory row e = (0, is.factory ∙ e)
app_found rows layout is Test row e = (0x20, sym is.test ∙ e)

-- the other core's partitions are apart from the layout's
pub rows_apart : (size : ℕ) (rows : List Row) (layout : Places) → FitsFlash size rows
    → layout_of rows ≡ Ok layout → IsApart layout (open_addresses rows)
unfolding open_addresses
rows_apart size rows layout fits laid =
    let is = layout_of-means rows layout laid in
    record {
      table = λ i from to. none_below size i rows fits.each (omega (arith, to));
      otadata = λ i from to.
          let at = is.otadata_is in
          let long = is.otadata_size in
          found_barred i (is_of 1 0) otadata_barred rows fits.apart is.otadata is.otadata_found
          (omega arith) (omega arith);
      apps = λ app row found i from to.
          let by = app_found rows layout is app row found in
          found_barred i (is_of 0 by.0) (app_barred by.0) rows fits.apart row by.1 from to;
    }

-- so they are in the layout of a flash by its table
pub flash_apart : (flash : List ℕ) (rows : List Row) (layout : Places)
    → table_of (take 0xC00 (drop 0x8000 flash)) (length flash) ≡ Ok rows
    → layout_in flash ≡ Ok layout → IsApart layout (open_addresses rows)
flash_apart flash rows layout read laid =
    rows_apart (length flash) rows layout
    (table_fits (take 0xC00 (drop 0x8000 flash)) (length flash) rows read)
    (layout_is flash rows layout read laid)

-- a step in such a partition leaves what stands
pub open_stands : (first : List ℕ) (made rest : List Step) (rows : List Row) (step : Step)
    (now left : List ℕ) → StandsBeside first made rest (open_addresses rows) now
    → LiesInOpenPart rows step → Torn now step left
    → StandsBeside first made rest (open_addresses rows) left
open_stands first made rest rows step now left stands lies torn =
    beside_other first made rest (open_addresses rows) step now left stands (step_open rows step lies)
    torn
