-- The data steps of an update keep to their slot, and leave the image there.
use Rattle.std.proofs.Common.{◌≡◌, ◌≢◌, inl, inr, ℕ, ◌+◌, ◌-◌, ◌*◌, ◌%◌, ◌<◌, ◌≤◌, List, [], ◌∷◌, length, take, drop, Option, Some, None, refl, sym, ap, ◌∙◌, subst, arith, length-drop}
use Rattle.std.specs.Prelude.{replicate, slice_index}
use Rattle.std.specs.List.{All, AllByRecursion}
use Rattle.std.proofs.lemmas.Bool.Decides.{nat_tests}
use Rattle.std.proofs.lemmas.List.{ext_get_or, get_or-drop, get_or-take, length-take, length-replicate}
use Rattle.nor_device.specs.declared.step.Step.{Step}
use Rattle.nor_device.specs.Flash.{after_steps}
use Rattle.nor_device.proofs.FlashLaws.{length-after_steps}
use Rattle.nor_device.proofs.Splice.{length-spliced, spliced_within}
use Rattle.crash_images.specs.Crash.{LeftAfter}
use Rattle.crash_images.specs.Agrees.{Agrees, Covers, IsBeside, StepsWithin}
use Rattle.crash_images.proofs.AgreesLaws.{agrees_part, left_agrees}
use Rattle.partition_table.specs.declared.app.App.{App}
use Rattle.partition_table.specs.declared.row.Row.{Row}
use Rattle.partition_table.specs.Rules.{Stands, alignment_of, is_aligned}
use Rattle.partition_table.specs.Layout.{Apart, IsPlaced, Places, row_for}
use Rattle.boot_select.specs.Boots.{entries_in, image_by, images_in, slot_in}
use Rattle.image_layout.specs.Whole.{Whole}
use Rattle.image_verify.specs.Held.{held}
use Rattle.image_verify.proofs.HeldFacts.{held_from}
use Rattle.flash_steps.specs.Steps.{LiesIn, with_part, write_steps}
use Rattle.flash_steps.proofs.EraseLemmas.{bytes_of_both, inside_of_erase}
use Rattle.flash_steps.proofs.WriteLemmas.{inside_of_write}
use Rattle.boot_run.proofs.FrameLemmas.{same_entry, stands_inside, steps_append}
use Rattle.update_steps.specs.Driver.{data_steps, slot_erases, whole_sectors}

-- ---- the partition of a slot

-- an application's partition begins at a sector, and is made of sectors
pub aligned_row : (size : ℕ) (row : Row) → Stands size row
    → (row.offset % 4096 ≡ 0) × (row.size % 4096 ≡ 0)
unfolding is_aligned alignment_of
aligned_row size row stands = let aligned = stands.aligned in
    (grind (arith, nat_tests), grind (arith, nat_tests))

-- ---- the range of the steps

-- steps that lie between two addresses change a range that holds them alone
lie_within : (start end low high : ℕ) (steps : List Step) → start ≤ low → high ≤ end
    → AllByRecursion (LiesIn low high) steps → StepsWithin start end steps
lie_within start end low high [] from to lie = tt
lie_within start end low high (step ∷ steps) from to lie =
    let first = lie.0.0 in
    let last = lie.0.1 in (
      record { from = omega arith; to = omega arith },
      lie_within start end low high steps from to lie.1,
    )

-- the sectors that an image needs are no longer than a slot that holds it
pub sectors_fit : (len size : ℕ) → size % 4096 ≡ 0 → len ≤ size → whole_sectors len ≤ size
sectors_fit len size made fits = omega arith

-- the erases change the slot alone
pub erases_within : (row : Row) (image : List ℕ) → row.offset % 4096 ≡ 0 → row.size % 4096 ≡ 0
    → length image ≤ row.size
    → StepsWithin row.offset (row.offset + row.size) (slot_erases row.offset image)
erases_within row image begins made fits =
    let len = whole_sectors (length image) in
    let short = sectors_fit (length image) row.size made fits in
    let sectors : len % 4096 ≡ 0 = omega arith in
    lie_within row.offset (row.offset + row.size) row.offset (row.offset + len)
    (slot_erases row.offset image) (omega arith) (omega (arith, short))
    (inside_of_erase row.offset len begins sectors)

-- so do the erases and the programs
pub data_within : (row : Row) (image : List ℕ) → row.offset % 4096 ≡ 0 → row.size % 4096 ≡ 0
    → length image ≤ row.size
    → StepsWithin row.offset (row.offset + row.size) (data_steps row.offset image)
data_within row image begins made fits =
    steps_append row.offset (row.offset + row.size) (slot_erases row.offset image)
    (write_steps row.offset image) (erases_within row image begins made fits)
    (lie_within row.offset (row.offset + row.size) row.offset (row.offset + length image)
    (write_steps row.offset image) (omega arith) (omega arith)
    (inside_of_write row.offset image))

-- ---- what stays beside the slot

-- the entries lie beside each partition of an application
pub entry_beside : (layout : Places) (size : ℕ) (app : App) (row : Row) → IsPlaced layout size
    → row_for layout app ≡ Some row → (sector : ℕ) → sector < 2
    → Covers (IsBeside row.offset (row.offset + row.size)) (layout.otadata + 4096 * sector) 32
entry_beside layout size app row placed is sector two i from to = by (placed.app_apart app row is)
  where
    by : Apart row.offset row.size layout.otadata 0x2000
        → IsBeside row.offset (row.offset + row.size) i
    by (inl before) = inr (omega arith)
    by (inr behind) = inl (omega arith)

-- the partitions of other applications lie beside it
app_beside : (layout : Places) (size : ℕ) (app other : App) (row others : Row)
    → IsPlaced layout size → row_for layout app ≡ Some row → row_for layout other ≡ Some others
    → app ≢ other
    → Covers (IsBeside row.offset (row.offset + row.size)) others.offset others.size
app_beside layout size app other row others placed is is_other apart i from to =
    by (placed.apps_apart app other row others is is_other apart)
  where
    by : Apart row.offset row.size others.offset others.size
        → IsBeside row.offset (row.offset + row.size) i
    by (inl before) = inr (omega arith)
    by (inr behind) = inl (omega arith)

-- so the entries stay where one partition alone changes
pub entry_stays : (layout : Places) (size : ℕ) (flash left : List ℕ) (app : App) (row : Row)
    → IsPlaced layout size → row_for layout app ≡ Some row
    → Agrees (IsBeside row.offset (row.offset + row.size)) flash left
    → (sector : ℕ) → sector < 2
    → entries_in layout left sector ≡ entries_in layout flash sector
entry_stays layout size flash left app row placed is agrees sector two =
    same_entry (IsBeside row.offset (row.offset + row.size)) layout flash left sector
    (entry_beside layout size app row placed is sector two) agrees

-- and so do the images of the other applications
pub image_stays : (layout : Places) (size : ℕ) (flash left : List ℕ) (app other : App) (row : Row)
    → IsPlaced layout size → row_for layout app ≡ Some row → app ≢ other
    → Agrees (IsBeside row.offset (row.offset + row.size)) flash left
    → images_in held layout left other ≡ images_in held layout flash other
image_stays layout size flash left app other row placed is apart agrees =
    at (row_for layout other) refl
  where
    at : (found : Option Row) → row_for layout other ≡ found
        → image_by held left found ≡ image_by held flash found
    at None none = refl
    at (Some others) some = ap held
        (agrees_part (IsBeside row.offset (row.offset + row.size)) flash left others.offset
        others.size (app_beside layout size app other row others placed is some apart) agrees)

-- ---- what the steps leave in the slot

-- the partition begins with bytes that were put there
put_begins : (row : Row) (image flash : List ℕ) → length image ≤ row.size
    → row.offset + row.size ≤ length flash
    → take (length image) (slot_in (with_part row.offset image flash) row) ≡ image
put_begins row image flash fits inside =
    ext_get_or 0 (take len (take row.size (drop at left))) image
    (omega (
      arith,
      size,
      length-take len (take row.size (drop at left)),
      length-take row.size (drop at left),
      length-drop at left,
    ))
    (λ i within.
    let short : i < len = omega (arith, within, length-take len (take row.size (drop at left))) in
    let here : at + i - at ≡ i = omega arith in
    get_or-take len (take row.size (drop at left)) i 0 short
    ∙ get_or-take row.size (drop at left) i 0 (omega arith)
    ∙ get_or-drop at left i 0
    ∙ spliced_within flash at len image same (at + i) (omega arith) (omega arith) (omega arith)
    ∙ ap (λ k. slice_index image k) here)
  where
    at : ℕ
    at = row.offset

    len : ℕ
    len = length image

    left : List ℕ
    left = with_part row.offset image flash

    same : length image ≡ length (take len (drop at flash))
    same = omega (arith, length-take len (drop at flash), length-drop at flash, fits, inside)

    size : length left ≡ length flash
    size = length-spliced flash at len image same

-- the erases and the programs leave a partition that begins with the image
pub data_begins : (row : Row) (image flash : List ℕ) → row.offset % 4096 ≡ 0
    → row.size % 4096 ≡ 0 → length image ≤ row.size → row.offset + row.size ≤ length flash
    → All (λ b. b < 256) image
    → take (length image) (slot_in (after_steps flash (data_steps row.offset image)) row) ≡ image
data_begins row image flash begins made fits inside small =
    let len = whole_sectors (length image) in
    let short = sectors_fit (length image) row.size made fits in
    let sectors : len % 4096 ≡ 0 = omega arith in
    let blank : length {A = ℕ} (replicate len 255) ≡ len = length-replicate {A = ℕ} len 255 in
    let mid = with_part row.offset (replicate len 255) flash in
    let same : length {A = ℕ} (replicate len 255)
    ≡ length (take (length {A = ℕ} (replicate len 255)) (drop row.offset flash)) =
    omega (
      arith,
      blank,
      length-take (length {A = ℕ} (replicate len 255)) (drop row.offset flash),
      length-drop row.offset flash,
      short,
      inside,
    ) in
    let size : length mid ≡ length flash =
    length-spliced flash row.offset (length {A = ℕ} (replicate len 255)) (replicate len 255) same in
    ap (λ f. take (length image) (slot_in f row))
    (bytes_of_both row.offset len row.offset image flash begins sectors (omega arith)
    (omega arith) (omega (arith, short)) small)
    ∙ put_begins row image mid fits (omega (arith, size))

-- so the application of the slot has that image, where it is whole
pub data_held : (layout : Places) (flash image : List ℕ) (app : App) (row : Row)
    → IsPlaced layout (length flash) → row_for layout app ≡ Some row → Whole image row.size
    → All (λ b. b < 256) image
    → images_in held layout (after_steps flash (data_steps row.offset image)) app ≡ Some image
data_held layout flash image app row placed is whole small =
    let stands = placed.stands app row is in
    let inside = stands_inside (length flash) row stands in
    let sectors = aligned_row (length flash) row stands in
    let steps = data_steps row.offset image in
    let left = after_steps flash steps in
    let long : length (slot_in left row) ≡ row.size =
    omega (
      arith,
      length-take row.size (drop row.offset left),
      length-drop row.offset left,
      length-after_steps flash steps,
      inside,
    ) in
    ap (image_by held left) is
    ∙ held_from (slot_in left row) image
    (data_begins row image flash sectors.0 sectors.1 whole.fits inside small)
    (subst (Whole image) (sym long) whole)

-- ---- the laws

-- what a loss of power leaves of the steps agrees beside the slot
pub left_beside : (layout : Places) (flash left image : List ℕ) (app : App) (row : Row)
    → IsPlaced layout (length flash) → row_for layout app ≡ Some row → length image ≤ row.size
    → LeftAfter flash (data_steps row.offset image) left
    → Agrees (IsBeside row.offset (row.offset + row.size)) flash left
left_beside layout flash left image app row placed is fits after =
    let sectors = aligned_row (length flash) row (placed.stands app row is) in
    left_agrees row.offset (row.offset + row.size) flash (data_steps row.offset image) left
    (data_within row image sectors.0 sectors.1 fits) after

-- so the entries stay at every moment
pub left_entries : (layout : Places) (flash left image : List ℕ) (app : App) (row : Row)
    → IsPlaced layout (length flash) → row_for layout app ≡ Some row → length image ≤ row.size
    → LeftAfter flash (data_steps row.offset image) left → (sector : ℕ) → sector < 2
    → entries_in layout left sector ≡ entries_in layout flash sector
left_entries layout flash left image app row placed is fits after =
    entry_stays layout (length flash) flash left app row placed is
    (left_beside layout flash left image app row placed is fits after)

-- and the images of the other applications
pub left_others : (layout : Places) (flash left image : List ℕ) (app other : App) (row : Row)
    → IsPlaced layout (length flash) → row_for layout app ≡ Some row → length image ≤ row.size
    → app ≢ other → LeftAfter flash (data_steps row.offset image) left
    → images_in held layout left other ≡ images_in held layout flash other
left_others layout flash left image app other row placed is fits apart after =
    image_stays layout (length flash) flash left app other row placed is apart
    (left_beside layout flash left image app row placed is fits after)
