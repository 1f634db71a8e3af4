-- Where a bootloader finds the parts of a flash.
use Rattle.std.specs.Prelude.{◌≡◌, ◌≢◌, ◌≤◌, ℕ, zero, suc, ◌+◌, ◌%◌, Bool, ◌&&◌, ◌||◌, not, ◌==◌, nat_lt, List, [], ◌∷◌, length, take, drop, Option, Some, None, Result, Ok, Err, if◌then◌else◌, slice_get, ◌⊎◌}
use Rattle.std.specs.List.{find, list_any}
use Rattle.std.specs.Option.{option_map}
use Rattle.partition_table.specs.declared.app.App.{App}
use Rattle.partition_table.specs.declared.app.App.TheVariants.{Ota, Factory, Test}
use Rattle.partition_table.specs.declared.row.Row.{Row}
use Rattle.partition_table.specs.declared.bad.TableBad.{TableBad}
use Rattle.partition_table.specs.declared.bad.TableBad.TheVariants.{NoOtadata, OtadataSize, OtadataFlags, NoFactory, SlotGap, AppHigh}
use Rattle.partition_table.specs.First.{first_place}
use Rattle.partition_table.specs.Rules.{Stands}
use Rattle.partition_table.specs.Table.{table_of, unless}

-- the places of the OTA data, the factory application, the slots in order, and the test application
pub record Places : Type 0 where
  pub otadata : ℕ
  pub factory : Row
  pub slots : List Row
  pub test : Option Row

-- whether a row is of this type and subtype
unfoldable pub is_of : ℕ → ℕ → Row → Bool
is_of kind subtype row = (row.kind == kind) && (row.subtype == subtype)

-- the row of this type and subtype
abbrev pub row_with : ℕ → ℕ → List Row → Option Row
row_with kind subtype rows = find (is_of kind subtype) rows

-- a slot and those that follow it, or none where there is no such slot
abbrev pub with_slot : Option Row → List Row → List Row
with_slot None rest = []
with_slot (Some row) rest = row ∷ rest

-- the rows of up to n update slots from number k on, up to the first number that has none
unfoldable pub slots_from : ℕ → ℕ → List Row → List Row
slots_from zero k rows = []
slots_from (suc n) k rows = with_slot (row_with 0 (0x10 + k) rows) (slots_from n (k + 1) rows)

-- whether a row is an update slot with a greater number
unfoldable pub is_behind : ℕ → Row → Bool
is_behind k row = (row.kind == 0) && nat_lt (0x10 + k) row.subtype && nat_lt row.subtype 0x20

-- whether an update slot of this number is wanted: it is the first one, or there is a greater one
unfoldable pub is_gap : ℕ → List Row → Bool
is_gap k rows = (k == 0) || list_any (is_behind k) rows

-- whether a row is an application that ends above 16 MiB, where the cache can't map it
unfoldable pub is_high : Row → Bool
is_high row = (row.kind == 0) && nat_lt 0x1000000 (row.offset + row.size)

-- the layout with these slots, or the least number of a slot that is missing, or else the first
-- application that ends above 16 MiB
unfoldable pub with_slots : ℕ → Row → List Row → List Row → Result Places TableBad
with_slots otadata factory slots rows =
    if is_gap (length slots) rows then Err (SlotGap (length slots))
    else unless (option_map AppHigh (first_place is_high 0 rows)) (record {
      otadata = otadata;
      factory = factory;
      slots = slots;
      test = row_with 0 0x20 rows;
    })

-- the layout with this factory application, or why there is none
abbrev pub with_factory : ℕ → Option Row → List Row → Result Places TableBad
with_factory otadata None rows = Err NoFactory
with_factory otadata (Some factory) rows = with_slots otadata factory (slots_from 16 0 rows) rows

-- the layout with these OTA data, or why there is none
abbrev pub with_otadata : Option Row → List Row → Result Places TableBad
with_otadata None rows = Err NoOtadata
with_otadata (Some row) rows =
    if not (row.size == 0x2000) then Err (OtadataSize row.size)
    else (if not (row.flags % 4 == 0) then Err (OtadataFlags row.flags)
    else with_factory row.offset (row_with 0 0 rows) rows)

-- where a bootloader finds its parts by the rows of a table, or why it can't
unfoldable pub layout_of : List Row → Result Places TableBad
layout_of rows = with_otadata (row_with 1 0 rows) rows

-- the layout by the rows of a table, or why there is none
abbrev pub layout_by : Result (List Row) TableBad → Result Places TableBad
layout_by (Ok rows) = layout_of rows
layout_by (Err why) = Err why

-- the layout of a flash by its table, or why it has none
unfoldable pub layout_in : List ℕ → Result Places TableBad
layout_in flash = layout_by (table_of (take 0xC00 (drop 0x8000 flash)) (length flash))

-- the row of an application, where the layout has it
abbrev pub row_for : Places → App → Option Row
row_for layout (Ota slot) = slice_get layout.slots slot
row_for layout Factory = Some layout.factory
row_for layout Test = layout.test

-- two ranges, each a place and a length, have no address in common
abbrev pub Apart : ℕ → ℕ → ℕ → ℕ → Type 0
Apart a n b m = (a + n ≤ b) ⊎ (b + m ≤ a)

-- the parts of a layout lie in order in a flash of this size: each behind the table and inside the
-- flash, at a sector or at 64 KiB, no two of them meet, and applications end in the first 16 MiB
pub record IsPlaced (layout : Places) (flash : ℕ) : Type 0 where
  pub aligned : layout.otadata % 0x1000 ≡ 0
  pub behind : 0x9000 ≤ layout.otadata
  pub inside : layout.otadata + 0x2000 ≤ flash
  pub stands : (app : App) (row : Row) → row_for layout app ≡ Some row → Stands flash row
  pub low : (app : App) (row : Row) → row_for layout app ≡ Some row
      → row.offset + row.size ≤ 0x1000000
  pub app_apart : (app : App) (row : Row) → row_for layout app ≡ Some row
      → Apart row.offset row.size layout.otadata 0x2000
  pub apps_apart : (a b : App) (r s : Row) → row_for layout a ≡ Some r → row_for layout b ≡ Some s
      → a ≢ b → Apart r.offset r.size s.offset s.size
