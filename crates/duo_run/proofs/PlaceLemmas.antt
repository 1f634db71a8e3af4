-- Where the application that runs stands in the flash, and that its segments are in place there.
use Rattle.std.proofs.Common.{◌≡◌, ℕ, zero, suc, ◌+◌, ◌%◌, ◌^◌, Bool, true, false, List, [], ◌∷◌, length, take, drop, Option, Some, None, IsSome, Ok, refl, sym, ap, ◌∙◌, arith, length-take}
use Rattle.std.specs.Prelude.{if◌then◌else◌}
use Rattle.std.specs.List.{find, slice_get}
use Rattle.std.proofs.lemmas.Bool.Decides.{nat_tests}
use Rattle.partition_table.specs.declared.app.App.{App}
use Rattle.partition_table.specs.declared.app.App.TheVariants.{Ota, Factory, Test}
use Rattle.partition_table.specs.declared.row.Row.{Row}
use Rattle.partition_table.specs.Rules.{is_aligned, alignment_of}
use Rattle.partition_table.specs.Layout.{Places, is_of, layout_of, row_for, row_with, slots_from, with_slot}
use Rattle.partition_table.specs.Table.{table_of}
use Rattle.partition_table.proofs.LayoutLemmas.{IsLayout, layout_of-means}
use Rattle.boot_select.specs.Boots.{image_by, images_in, slot_in}
use Rattle.image_verify.specs.declared.info.ImageInfo.{ImageInfo}
use Rattle.image_verify.specs.Held.{held}
use Rattle.image_verify.specs.Info.{IsInfo}
use Rattle.image_verify.proofs.HeldFacts.{held_is}
use Rattle.boot_run.proofs.FrameLemmas.{stands_inside}
use Rattle.update_steps.proofs.TableLemmas.{layout_placed, table_fits}
use Rattle.duo_run.specs.Pages.{AreInPlace}
use Rattle.duo_run.proofs.PageLemmas.{image_in_place}

-- ---- an application's partition begins at 64 KiB

kind_is : (subtype : ℕ) (row : Row) → is_of 0 subtype row ≡ true → row.kind ≡ 0
unfolding is_of
kind_is subtype row is = grind (arith, nat_tests)

found_kind : (subtype : ℕ) (rows : List Row) (row : Row) → row_with 0 subtype rows ≡ Some row
    → row.kind ≡ 0
found_kind subtype [] row is = absurd cc
found_kind subtype (first ∷ rows) row is =
    by (is_of 0 subtype first) refl is (λ later. found_kind subtype rows row later)
  where
    by : (b : Bool) → is_of 0 subtype first ≡ b
        → (if b then Some first else find (is_of 0 subtype) rows) ≡ Some row
        → (find (is_of 0 subtype) rows ≡ Some row → row.kind ≡ 0) → row.kind ≡ 0
    by true told e more =
        let same : first ≡ row = cc in
        ap (λ (r : Row). r.kind) (sym same) ∙ kind_is subtype first told
    by false told e more = more e

slot_kind : (n k slot : ℕ) (rows : List Row) (row : Row)
    → slice_get (slots_from n k rows) slot ≡ Some row → row.kind ≡ 0
unfolding slots_from
slot_kind zero k slot rows row is = absurd cc
slot_kind (suc n) k slot rows row is = by (row_with 0 (0x10 + k) rows) refl slot is
    (λ j e. slot_kind n (k + 1) j rows row e)
  where
    by : (o : Option Row) → row_with 0 (0x10 + k) rows ≡ o → (j : ℕ)
        → slice_get (with_slot o (slots_from n (k + 1) rows)) j ≡ Some row
        → ((m : ℕ) → slice_get (slots_from n (k + 1) rows) m ≡ Some row → row.kind ≡ 0)
        → row.kind ≡ 0
    by None told j e more = absurd cc
    by (Some first) told zero e more = found_kind (0x10 + k) rows row (told ∙ cc)
    by (Some first) told (suc j) e more = more j e

app_kind : (rows : List Row) (layout : Places) → IsLayout rows layout → (app : App) (row : Row)
    → row_for layout app ≡ Some row → row.kind ≡ 0
app_kind rows layout is (Ota slot) row e =
    slot_kind 16 0 slot rows row (ap (λ (s : List Row). slice_get s slot) (sym is.slots) ∙ e)
app_kind rows layout is Factory row e = found_kind 0 rows row (is.factory ∙ e)
app_kind rows layout is Test row e = found_kind 0x20 rows row (sym is.test ∙ e)

at_page : (row : Row) → row.kind ≡ 0 → is_aligned row ≡ true → row.offset % 65536 ≡ 0
unfolding is_aligned alignment_of
at_page row kind is = let here = rw kind at is in grind (arith, nat_tests, here)

-- ---- its image

-- an application that has an image has a partition
pub row_there : (layout : Places) (flash : List ℕ) (app : App) (image : List ℕ)
    → images_in held layout flash app ≡ Some image → IsSome (row_for layout app)
row_there layout flash app image is = by (row_for layout app) is
  where
    by : (o : Option Row) → image_by held flash o ≡ Some image → IsSome o
    by None is = absurd cc
    by (Some row) is = refl

-- its segments are in place, as they are told, in the flash and in the first 16 MiB
pub app_in_place : (flash : List ℕ) (rows : List Row) (layout : Places) (app : App) (row : Row)
    (image : List ℕ) (info : ImageInfo)
    → table_of (take 0xC00 (drop 0x8000 flash)) (length flash) ≡ Ok rows
    → layout_of rows ≡ Ok layout → row_for layout app ≡ Some row
    → images_in held layout flash app ≡ Some image → IsInfo image info
    → AreInPlace (length flash) row.offset info.segments.items
    × AreInPlace (2 ^ 24) row.offset info.segments.items
app_in_place flash rows layout app row image info table laid is holds told =
    let obeyed = table_fits (take 0xC00 (drop 0x8000 flash)) (length flash) rows table in
    let placed = layout_placed (length flash) rows layout obeyed laid in
    let stands = placed.stands app row is in
    let low = placed.low app row is in
    let there : held (slot_in flash row) ≡ Some image =
    ap (λ (o : Option Row). image_by held flash o) (sym is) ∙ holds in
    let held_here = held_is (slot_in flash row) image there in
    let fits = held_here.whole.fits in
    let long = length-take row.size (drop row.offset flash) in
    let inside = stands_inside (length flash) row stands in
    let aligned = at_page row
    (app_kind rows layout (layout_of-means rows layout laid) app row is) stands.aligned in (
      image_in_place (length flash) row.offset (length (slot_in flash row)) image info aligned
          (omega arith) held_here.whole told,
      image_in_place (2 ^ 24) row.offset (length (slot_in flash row)) image info aligned
          (omega arith) held_here.whole told,
    )
