-- What a table says of the layout by it, and when an update opens on its flash.
use Rattle.std.proofs.Common.{◌≡◌, ◌≤◌, ◌<◌, ℕ, zero, suc, ◌+◌, Bool, true, false, List, length, drop, take, Option, Some, None, Result, Ok, Err, refl, sym, ap, subst, arith}
use Rattle.std.specs.Prelude.{All, if◌then◌else◌, nat_lt}
use Rattle.std.proofs.lemmas.Bool.Decides.{nat_tests}
use Rattle.std.proofs.lemmas.List.Elements.{All-replicate}
use Rattle.std.proofs.lemmas.Option.{slice_get_within}
use Rattle.partition_table.specs.declared.row.Row.{Row}
use Rattle.partition_table.specs.declared.bad.TableBad.{TableBad}
use Rattle.partition_table.specs.Rules.{FitsFlash}
use Rattle.partition_table.specs.Table.{end_bad, first_rows, rows_in, table_bad, table_of, unless}
use Rattle.partition_table.specs.Layout.{IsPlaced, Places, is_gap, layout_by, layout_in, layout_of, row_with, slots_from, with_slot}
use Rattle.partition_table.proofs.LayoutLemmas.{layout_of-means, placed}
use Rattle.partition_table.proofs.RuleLemmas.{fits, none_second}
use Rattle.otadata.specs.declared.entry.Entry.{Entry}
use Rattle.otadata.specs.declared.next.NextEntry.{NextEntry}
use Rattle.otadata.specs.declared.next.SeqSpent.{SeqSpent}
use Rattle.otadata.specs.Choice.{active_of}
use Rattle.otadata.specs.Crc.{crc}
use Rattle.otadata.specs.Entry.{IsStored}
use Rattle.otadata.specs.Next.{active_seq, new_entry, next_by, next_of, next_sector, next_seq}
use Rattle.boot_select.specs.Boots.{entries_in, images_in}
use Rattle.rollback.proofs.PairLemmas.{boots_holds}
use Rattle.image_verify.specs.Held.{held}
use Rattle.boot_run.specs.declared.aims.Aim.{Aim}
use Rattle.boot_run.specs.Aim.{IsAimed}
use Rattle.boot_run.proofs.AimLemmas.{aim_begins}
use Rattle.update_steps.specs.Session.{IsOpening}
use Rattle.update_steps.proofs.StepLemmas.{aimed_opens}

-- ---- rows and layout

-- the rows of a table obey its rules
pub table_fits : (bytes : List ℕ) (size : ℕ) (rows : List Row) → table_of bytes size ≡ Ok rows
    → FitsFlash size rows
unfolding table_of table_bad
table_fits bytes size rows is = by (table_bad bytes size) refl is
  where
    found : List Row
    found = first_rows (rows_in 96 bytes) bytes

    by : (bad : Option TableBad) → table_bad bytes size ≡ bad → unless bad found ≡ Ok rows
        → FitsFlash size rows
    by None told e =
        let same : found ≡ rows = cc in
        subst (FitsFlash size) same
        (fits size found (none_second (end_bad bytes (rows_in 96 bytes)) _ told))
    by (Some why) told e = absurd cc

-- the layout of a flash is that by the rows of its table
pub layout_is : (flash : List ℕ) (rows : List Row) (layout : Places)
    → table_of (take 0xC00 (drop 0x8000 flash)) (length flash) ≡ Ok rows
    → layout_in flash ≡ Ok layout → layout_of rows ≡ Ok layout
unfolding layout_in
layout_is flash rows layout read is = rw read at is

-- the rows of the table of a flash that has a layout
record Read (flash : List ℕ) (layout : Places) : Type 0 where
  rows : List Row
  read : table_of (take 0xC00 (drop 0x8000 flash)) (length flash) ≡ Ok rows
  laid : layout_of rows ≡ Ok layout

read : (flash : List ℕ) (layout : Places) → layout_in flash ≡ Ok layout → Read flash layout
unfolding layout_in
read flash layout is = by (table_of (take 0xC00 (drop 0x8000 flash)) (length flash)) refl is
  where
    by : (found : Result (List Row) TableBad)
        → table_of (take 0xC00 (drop 0x8000 flash)) (length flash) ≡ found
        → layout_by found ≡ Ok layout → Read flash layout
    by (Err why) told e = absurd cc
    by (Ok rows) told e = record { rows = rows; read = told; laid = e }

-- the parts lie in order
pub layout_placed : (size : ℕ) (rows : List Row) (layout : Places) → FitsFlash size rows
    → layout_of rows ≡ Ok layout → IsPlaced layout size
layout_placed size rows layout obeyed laid =
    placed size rows layout obeyed (layout_of-means rows layout laid)

-- ---- the number of slots

few_from : (n k : ℕ) (rows : List Row) → length (slots_from n k rows) ≤ n
unfolding slots_from
few_from zero k rows = omega arith
few_from (suc n) k rows = by (row_with 0 (0x10 + k) rows) (few_from n (k + 1) rows)
  where
    by : (found : Option Row) → length (slots_from n (k + 1) rows) ≤ n
        → length (with_slot found (slots_from n (k + 1) rows)) ≤ suc n
    by None few = omega arith
    by (Some row) few = omega (arith, few)

-- there are at most 16
pub layout_few : (rows : List Row) (layout : Places) → layout_of rows ≡ Ok layout
    → length layout.slots ≤ 16
layout_few rows layout laid =
    subst (λ (slots : List Row). length slots ≤ 16)
    (sym (layout_of-means rows layout laid).slots) (few_from 16 0 rows)

gap_some : (n : ℕ) (rows : List Row) → is_gap n rows ≡ false → 0 < n
unfolding is_gap
gap_some zero rows is = absurd cc
gap_some (suc n) rows is = omega arith

-- and the first one is wanted
pub layout_some : (rows : List Row) (layout : Places) → layout_of rows ≡ Ok layout
    → 0 < length layout.slots
layout_some rows layout laid =
    let is = layout_of-means rows layout laid in
    let many = ap length is.slots in
    let some = gap_some (length (slots_from 16 0 rows)) rows is.no_gap in
    omega (arith, many, some)

-- ---- an update opens

-- four bytes hold a CRC
crc_small : (seq : ℕ) → crc seq < 4294967296
unfolding crc
crc_small seq = omega arith

-- an entry that is new is stored, where four bytes hold its sequence
new_stored : (seq : ℕ) → seq < 4294967296 → IsStored (new_entry seq)
new_stored seq small = record {
  sized = record { seq = small; label = refl; state = omega arith; crc = crc_small seq };
  label = All-replicate (λ b. b < 256) 20 0xFF (omega arith);
}

-- so is the next entry for one of at most 16 slots
next_stored : (first second : Entry) (slot slots : ℕ) (next : NextEntry) → slot < 16
    → next_of first second slot slots ≡ Ok next → IsStored next.entry
unfolding next_of
next_stored first second slot slots next few is = by (active_seq first second) is
  where
    given : ℕ → NextEntry
    given n = record { sector = next_sector (active_of first second); entry = new_entry n }

    spent : ℕ → SeqSpent
    spent seq = record { seq = seq }

    later : (seq n : ℕ) (b : Bool) → nat_lt n 0xFFFFFFFF ≡ b
        → (if b then Ok (given n) else Err (spent seq)) ≡ Ok next → IsStored next.entry
    later seq n true told e =
        let same : given n ≡ next = cc in
        subst (λ (x : NextEntry). IsStored x.entry) same
        (new_stored n (grind (arith, nat_tests, told)))
    later seq n false told e = absurd cc

    by : (active : Option ℕ)
        → next_by (next_sector (active_of first second)) active (next_seq slots active slot) ≡ Ok next
        → IsStored next.entry
    by None e =
        let same : given (slot + 1) ≡ next = cc in
        subst (λ (x : NextEntry). IsStored x.entry) same (new_stored (slot + 1) (omega arith))
    by (Some seq) e =
        later seq (next_seq slots (Some seq) slot) (nat_lt (next_seq slots (Some seq) slot) 0xFFFFFFFF)
        refl e

-- what is aimed at on a flash by its table opens an update
pub table_opens : (flash : List ℕ) (layout : Places) (aim : Aim) (new : List ℕ)
    → layout_in flash ≡ Ok layout → All (λ b. b < 256) new
    → IsAimed layout (images_in held layout flash) (entries_in layout flash) (length new) aim
    → (old : List ℕ) × IsOpening layout flash aim old new
table_opens flash layout aim new laid bytes aimed =
    let table = read flash layout laid in
    let obeyed = table_fits (take 0xC00 (drop 0x8000 flash)) (length flash) table.rows table.read in
    let some = layout_some table.rows layout table.laid in
    let few = layout_few table.rows layout table.laid in
    let begins = aim_begins layout (images_in held layout flash) (entries_in layout flash)
    (length new) aim some aimed in
    let slot = slice_get_within layout.slots aim.slot begins.row begins.row_is in (
      begins.image,
      aimed_opens layout flash aim begins.image new
          (layout_placed (length flash) table.rows layout obeyed table.laid) some few aimed
          (boots_holds layout (images_in held layout flash) (entries_in layout flash) aim.running
          begins.image begins.settled.booted)
          (next_stored (entries_in layout flash 0) (entries_in layout flash 1) aim.slot
          (length layout.slots) aim.next (omega arith) begins.aims.next_is) bytes,
    )

-- so a flash with a layout has it in order
pub flash_placed : (flash : List ℕ) (layout : Places) → layout_in flash ≡ Ok layout
    → IsPlaced layout (length flash) × (0 < length layout.slots) × (length layout.slots ≤ 16)
flash_placed flash layout laid =
    let table = read flash layout laid in
    let obeyed = table_fits (take 0xC00 (drop 0x8000 flash)) (length flash) table.rows table.read in (
      layout_placed (length flash) table.rows layout obeyed table.laid,
      layout_some table.rows layout table.laid,
      layout_few table.rows layout table.laid,
    )
