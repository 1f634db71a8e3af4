-- What boots stays where only addresses of the OTA data change, and the entry of a sector where
-- only the other sector does.
use Rattle.std.proofs.Common.{◌≡◌, inl, inr, ℕ, zero, suc, ◌+◌, ◌-◌, ◌*◌, ◌%◌, ◌<◌, ◌≤◌, List, [], ◌∷◌, ◌++◌, length, Option, Some, None, refl, ap, ◌∙◌, arith}
use Rattle.std.proofs.lemmas.Bool.Decides.{nat_tests}
use Rattle.nor_device.specs.declared.step.Step.{Step}
use Rattle.nor_device.specs.Nor.{part_of}
use Rattle.crash_images.specs.Crash.{LeftAfter}
use Rattle.crash_images.specs.Agrees.{Agrees, IsBeside, Covers, StepsWithin}
use Rattle.crash_images.proofs.AgreesLaws.{agrees_part, left_agrees}
use Rattle.partition_table.specs.declared.app.App.{App}
use Rattle.partition_table.specs.declared.row.Row.{Row}
use Rattle.partition_table.specs.Rules.{Stands, is_within}
use Rattle.partition_table.specs.Layout.{Places, row_for, Apart, IsPlaced, layout_by, layout_in}
use Rattle.partition_table.specs.Table.{table_of}
use Rattle.otadata.specs.Entry.{entry_of}
use Rattle.otadata.proofs.EntryLemmas.{length-entry_bytes}
use Rattle.boot_select.specs.Boots.{entries_in, image_by, images_in}
use Rattle.rollback.specs.declared.rewrite.Rewrite.{Rewrite}
use Rattle.rollback.specs.Boots.{boots, boots_in}
use Rattle.rollback.specs.Pair.{other_of}
use Rattle.rollback.proofs.EntriesLemmas.{boots_same}
use Rattle.boot_run.specs.Rewriting.{AreShort, rewrite, rewrites}

-- ---- what depends on which addresses

-- the entry of a sector depends on its 32 bytes
pub same_entry : (Stays : ℕ → Type 0) (layout : Places) (old new : List ℕ) (sector : ℕ)
    → Covers Stays (layout.otadata + 4096 * sector) 32 → Agrees Stays old new
    → entries_in layout new sector ≡ entries_in layout old sector
same_entry Stays layout old new sector covers agrees =
    ap entry_of (agrees_part Stays old new (layout.otadata + 4096 * sector) 32 covers agrees)

-- the image of each application depends on its partition
pub same_images : (held : List ℕ → Option (List ℕ)) (Stays : ℕ → Type 0) (layout : Places)
    (old new : List ℕ)
    → ((app : App) (row : Row) → row_for layout app ≡ Some row → Covers Stays row.offset row.size)
    → Agrees Stays old new → images_in held layout new ≡ images_in held layout old
same_images held Stays layout old new covers agrees =
    λ i app. at app (row_for layout app) (λ j. row_for layout app) i
  where
    at : (app : App) (row : Option Row) → row_for layout app ≡ row → image_by held new row
        ≡ image_by held old row
    at app None is = refl
    at app (Some row) is = ap held
        (agrees_part Stays old new row.offset row.size (covers app row is) agrees)

-- the layout depends on the table and the length
pub same_layout : (Stays : ℕ → Type 0) (old new : List ℕ) → Covers Stays 0x8000 0xC00
    → Agrees Stays old new → layout_in new ≡ layout_in old
unfolding layout_in
same_layout Stays old new covers agrees =
    ap (λ bytes. layout_by (table_of bytes (length new)))
    (agrees_part Stays old new 0x8000 0xC00 covers agrees)
    ∙ ap (λ n. layout_by (table_of (part_of old 0x8000 0xC00) n)) agrees.same_length

-- ---- a rewrite keeps to its sector

-- the steps of a rewrite change its sector alone
pub rewrite_within : (otadata : ℕ) (write : Rewrite) → otadata % 4096 ≡ 0 → length write.entry.label
    ≤ 20
    → StepsWithin (otadata + 4096 * write.sector) (otadata + 4096 * write.sector + 4096)
    (rewrite otadata write)
rewrite_within otadata write aligned short =
    let long = length-entry_bytes write.entry in (
      record { from = omega arith; to = omega arith },
      (record { from = omega arith; to = omega arith }, tt),
    )

-- steps in a range lie in a wider one
pub steps_wider : (start end low high : ℕ) (steps : List Step) → low ≤ start → end ≤ high
    → StepsWithin start end steps → StepsWithin low high steps
steps_wider start end low high [] from to within = tt
steps_wider start end low high (step ∷ steps) from to within =
    let first = within.0 in (
      record { from = omega arith; to = omega arith },
      steps_wider start end low high steps from to
          within.1,
    )

-- two lists of steps in a range
pub steps_append : (start end : ℕ) (front back : List Step) → StepsWithin start end front
    → StepsWithin start end back → StepsWithin start end (front ++ back)
steps_append start end [] back one two = two
steps_append start end (step ∷ front) back one two =
    (one.0, steps_append start end front back one.1 two)

-- the steps of rewrites change the OTA data alone
pub rewrites_within : (otadata : ℕ) (writes : List Rewrite) → otadata % 4096 ≡ 0 → AreShort writes
    → StepsWithin otadata (otadata + 8192) (rewrites otadata writes)
rewrites_within otadata [] aligned short = tt
rewrites_within otadata (write ∷ writes) aligned short =
    let two = short.0.0 in
    steps_append otadata (otadata + 8192) (rewrite otadata write) (rewrites otadata writes)
    (steps_wider (otadata + 4096 * write.sector) (otadata + 4096 * write.sector + 4096) otadata
    (otadata + 8192)
    (rewrite otadata write) (omega arith) (omega arith)
    (rewrite_within otadata write aligned short.0.1))
    (rewrites_within otadata writes aligned short.1)

-- ---- so all else stays

-- a row that stands ends inside the flash
pub stands_inside : (size : ℕ) (row : Row) → Stands size row → row.offset + row.size ≤ size
unfolding is_within
stands_inside size row stands = let within = stands.within in grind (arith, nat_tests)

-- the partitions of the applications lie beside the OTA data
pub apps_beside : (layout : Places) (size : ℕ) → IsPlaced layout size → (app : App) (row : Row)
    → row_for layout app ≡ Some row → Covers (IsBeside layout.otadata (layout.otadata + 8192))
    row.offset row.size
apps_beside layout size placed app row is i from to = by (placed.app_apart app row is)
  where
    by : Apart row.offset row.size layout.otadata 8192 → IsBeside layout.otadata
        (layout.otadata + 8192) i
    by (inl before) = inl (omega arith)
    by (inr behind) = inr (omega arith)

-- what may be left of rewrites has the same images
pub left_images : (held : List ℕ → Option (List ℕ)) (layout : Places) (size : ℕ)
    (flash left : List ℕ) (writes : List Rewrite)
    → IsPlaced layout size → AreShort writes → LeftAfter flash (rewrites layout.otadata writes) left
    → images_in held layout left ≡ images_in held layout flash
left_images held layout size flash left writes placed short after =
    same_images held (IsBeside layout.otadata (layout.otadata + 8192)) layout flash left
    (apps_beside layout size placed)
    (left_agrees layout.otadata (layout.otadata + 8192) flash (rewrites layout.otadata writes) left
    (rewrites_within layout.otadata writes placed.aligned short) after)

-- and the same length
pub left_length : (layout : Places) (size : ℕ) (flash left : List ℕ) (writes : List Rewrite)
    → IsPlaced layout size → AreShort writes → LeftAfter flash (rewrites layout.otadata writes) left
    → length left ≡ length flash
left_length layout size flash left writes placed short after =
    (left_agrees layout.otadata (layout.otadata + 8192) flash (rewrites layout.otadata writes) left
    (rewrites_within layout.otadata writes placed.aligned short) after).same_length

-- what may be left of one rewrite has the same entry in the other sector
pub left_other : (layout : Places) (flash left : List ℕ) (write : Rewrite) → layout.otadata % 4096
    ≡ 0
    → write.sector < 2 → length write.entry.label ≤ 20
    → LeftAfter flash (rewrite layout.otadata write) left
    → entries_in layout left (other_of write.sector) ≡ entries_in layout flash
    (other_of write.sector)
left_other layout flash left write aligned two short after =
    let start = layout.otadata + 4096 * write.sector in
    same_entry (IsBeside start (start + 4096)) layout flash left (other_of write.sector)
    (λ i from to. beside write.sector two i from to)
    (left_agrees start (start + 4096) flash (rewrite layout.otadata write) left
    (rewrite_within layout.otadata write aligned short) after)
  where
    beside : (y : ℕ) → y < 2 → (i : ℕ) → layout.otadata + 4096 * (1 - y) ≤ i
        → i < layout.otadata + 4096 * (1 - y) + 32
        → IsBeside (layout.otadata + 4096 * y) (layout.otadata + 4096 * y + 4096) i
    beside zero two i from to = inr (omega arith)
    beside (suc n) two i from to = inl (let same : n ≡ 0 = omega arith in omega arith)

-- flashes that agree at the OTA data and at the partitions boot the same
pub boots_agree : (held : List ℕ → Option (List ℕ)) (Stays : ℕ → Type 0) (layout : Places)
    (old new : List ℕ)
    → ((sector : ℕ) → sector < 2 → Covers Stays (layout.otadata + 4096 * sector) 32)
    → ((app : App) (row : Row) → row_for layout app ≡ Some row → Covers Stays row.offset row.size)
    → Agrees Stays old new → boots_in held layout new ≡ boots_in held layout old
boots_agree held Stays layout old new entries apps agrees =
    ap (λ h. boots layout h (entries_in layout new))
    (same_images held Stays layout old new apps agrees)
    ∙ boots_same layout (images_in held layout old) (entries_in layout old) (entries_in layout new)
    (same_entry Stays layout old new 0 (entries 0 (omega arith)) agrees)
    (same_entry Stays layout old new 1 (entries 1 (omega arith)) agrees)
