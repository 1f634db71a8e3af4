-- A flash that is made, as a bootloader reads it.
use Rattle.std.proofs.Common.{◌≡◌, ℕ, ◌+◌, ◌*◌, ◌-◌, ◌<◌, ◌≤◌, Bool, true, false, List, length, take, drop, replicate, Option, Some, None, Result, Ok, Err, refl, sym, ap, subst, ◌∙◌, ◌⊎◌, inl, inr, arith}
use Rattle.std.specs.Prelude.{All, if◌then◌else◌, ◌==◌, ◌↔◌}
use Rattle.std.proofs.lemmas.Bool.Decides.{nat_tests}
use Rattle.std.proofs.lemmas.List.{drop-replicate, length-drop, length-replicate, length-take-le, take-replicate, take-take}
use Rattle.byteorder.specs.Endian.{little_number}
use Rattle.nor_device.specs.FlashSize.{is_flash_size}
use Rattle.otadata.specs.declared.entry.Entry.{Entry}
use Rattle.otadata.specs.Entry.{entry_in, entry_of}
use Rattle.otadata.specs.Choice.{IsValid}
use Rattle.otadata.proofs.ChoiceLemmas.{active-none}
use Rattle.partition_table.specs.declared.app.App.TheVariants.{Factory}
use Rattle.partition_table.specs.declared.bad.TableBad.{TableBad}
use Rattle.partition_table.specs.declared.row.Row.{Row}
use Rattle.partition_table.specs.Layout.{Apart, IsPlaced, Places, layout_by, layout_in, layout_of}
use Rattle.partition_table.specs.Rules.{is_within}
use Rattle.partition_table.specs.Table.{TableOf, table_of, table_text}
use Rattle.partition_table.proofs.RowLemmas.{bytes-all}
use Rattle.partition_table.proofs.TableLemmas.{table_of-means, table_of-text, table_text-means}
use Rattle.partition_table.proofs.LayoutLemmas.{layout_of-means, placed}
use Rattle.boot_select.specs.Choice.{named_by, named_of}
use Rattle.boot_select.specs.Boots.{entries_in, first_held, images_in}
use Rattle.boot_select.specs.Candidates.{candidates}
use Rattle.rollback.specs.Boots.{boots_in}
use Rattle.rollback.proofs.VoteLemmas.{named_seq, pick, vote}
use Rattle.rollback.proofs.ChanceLemmas.{boots_at, invalid_vote}
use Rattle.rollback.proofs.PairLemmas.{named_boots}
use Rattle.image_layout.specs.Whole.{Whole}
use Rattle.image_verify.specs.declared.bad.BadImage.{BadImage}
use Rattle.image_verify.specs.Bad.{bad}
use Rattle.image_verify.specs.Held.{held}
use Rattle.image_verify.proofs.HeldFacts.{held_from}
use Rattle.flash_text.specs.declared.refusal.Refusal.{Refusal}
use Rattle.flash_text.specs.declared.refusal.Refusal.TheVariants.{FlashSize, TableLength}
use Rattle.flash_cli.specs.TableShow.{file_rows, rows_or_refusal}
use Rattle.flash_cli.specs.FlashMake.{erased_flash, flash_by_layout, flash_by_rows, flash_with, made_flash, unless_bad, with_at}
use Rattle.flash_cli.specs.Laws.{IsFactoryFlash, slot_of}
use Rattle.flash_cli.proofs.PlaceLemmas.{length-with, others_there, part_there}

-- a row within a flash begins behind the table and ends inside the flash
record Within (flash : ℕ) (row : Row) : Type 0 where
  behind : 0x9000 ≤ row.offset
  inside : row.offset + row.size ≤ flash

within : (flash : ℕ) (row : Row) → is_within flash row ≡ true → Within flash row
unfolding is_within
within flash row is = record { behind = grind (arith, nat_tests); inside = grind (arith, nat_tests) }

-- the factory partition of a layout ends inside the flash
pub factory_inside : (flash : ℕ) (layout : Places) (factory : Row) → IsPlaced layout flash
    → factory ≡ layout.factory → factory.offset + factory.size ≤ flash
factory_inside flash layout factory placed is =
    rw is (within flash layout.factory (placed.stands Factory layout.factory refl).within).inside

-- ---- an erased flash

-- it is so long
length-erased : (size : ℕ) → length (erased_flash size) ≡ size
unfolding erased_flash
length-erased size = length-replicate size 0xFF

-- and erased everywhere
erased_there : (size a n : ℕ) → a + n ≤ size → take n (drop a (erased_flash size)) ≡ replicate n 0xFF
unfolding erased_flash
erased_there size a n inside =
    ap (take n) (drop-replicate a size 0xFF) ∙ take-replicate n (size - a) 0xFF (omega arith)

-- an erased entry is not valid
never_valid : (bytes : List ℕ) → bytes ≡ replicate 32 0xFF → IsValid (entry_of bytes) → ⊥
unfolding entry_of
never_valid bytes is valid = valid.matches.written (ap (λ (bs : List ℕ). little_number 4 bs) is)

-- where no entry is valid, factory is named
names_factory : (layout : Places) (first second : Entry) → (IsValid first → ⊥) → (IsValid second → ⊥)
    → named_of layout first second ≡ Factory
unfolding named_of
names_factory layout first second one two =
    ap (named_by layout first second)
    ((active-none first second).1 (record { first_invalid = one; second_invalid = two }))

-- the rows of a table file are those of its bytes
table_read : (table : List ℕ) (size : ℕ) (rows : List Row) → All (λ b. b < 256) table
    → file_rows table size ≡ Ok rows → TableOf table size rows
unfolding file_rows
table_read table size rows small read =
    by (length table == 3072) refl (table_of table size) refl read
  where
    by : (long : Bool) → (length table == 3072) ≡ long → (told : Result (List Row) TableBad)
        → table_of table size ≡ told
        → (if long then rows_or_refusal told else Err (TableLength (length table))) ≡ Ok rows
        → TableOf table size rows
    by false long told told_is read = absurd (cc)
    by true long (Err why) told_is read = absurd (cc)
    by true long (Ok others) told_is read =
        let same : others ≡ rows = cc in
        let exact : length table ≡ 0xC00 = grind (arith, nat_tests, long) in
        table_of-means table size rows exact (bytes-all table small) (told_is ∙ ap Ok same)

-- ---- the flash of a table and an image

module _ (size : ℕ) (rows : List Row) (layout : Places) (image : List ℕ) (lies : IsPlaced layout size)
    (long : length (table_text rows) ≡ 0xC00) (whole : Whole image layout.factory.size) where
  -- the flash with the table alone
  abbrev base : List ℕ
  base = with_at 0x8000 (table_text rows) (erased_flash size)

  -- the flash
  abbrev flash : List ℕ
  flash = with_at layout.factory.offset image base

  -- the factory partition lies behind the table, and inside the flash
  place : Within size layout.factory
  place = within size layout.factory (lies.stands Factory layout.factory refl).within

  -- the table has room
  room : 0x8000 + length (table_text rows) ≤ length (erased_flash size)
  room = let end = place.inside in let start = place.behind in omega (arith, length-erased size, long, start, end)

  length-base : length base ≡ size
  length-base = length-with (erased_flash size) 0x8000 (table_text rows) room ∙ length-erased size

  -- and so has the image
  fits : layout.factory.offset + length image ≤ length base
  fits = let end = place.inside in let most = whole.fits in omega (arith, length-base, end, most)

  length-flash : length flash ≡ size
  length-flash = length-with base layout.factory.offset image fits ∙ length-base

  -- the table stands at its place
  table_there : take 0xC00 (drop 0x8000 flash) ≡ table_text rows
  table_there =
      let start = place.behind in
      let inside : 0x8000 + 0xC00 ≤ length base = omega (arith, room, long, length-base, length-erased size) in
      others_there base layout.factory.offset image fits 0x8000 0xC00 (inl (omega (arith, start))) inside
      ∙ ap (λ (n : ℕ). take n (drop 0x8000 base)) (sym long)
      ∙ part_there (erased_flash size) 0x8000 (table_text rows) room

  -- the OTA data are erased
  blank : (a : ℕ) → layout.otadata ≤ a → a + 32 ≤ layout.otadata + 0x2000
      → take 32 (drop a flash) ≡ replicate 32 0xFF
  blank a from to =
      let behind = lies.behind in
      let end = lies.inside in
      let past : 0x8000 + length (table_text rows) ≤ a = omega (arith, long, behind, from) in
      let inside : a + 32 ≤ size = omega (arith, end, to) in
      others_there base layout.factory.offset image fits a 32
      (apart (lies.app_apart Factory layout.factory refl)) (omega (arith, length-base, inside))
      ∙ others_there (erased_flash size) 0x8000 (table_text rows) room a 32 (inr past)
      (omega (arith, length-erased size, inside))
      ∙ erased_there size a 32 inside
    where
      apart : Apart layout.factory.offset layout.factory.size layout.otadata 0x2000
          → (a + 32 ≤ layout.factory.offset) ⊎ (layout.factory.offset + length image ≤ a)
      apart (inl before) = let most = whole.fits in inr (omega (arith, before, from, most))
      apart (inr behind) = inl (omega (arith, behind, to))

  -- the entry of a sector is not valid
  invalid : (sector : ℕ) → sector < 2 → IsValid (entry_in flash layout.otadata sector) → ⊥
  invalid sector low =
      never_valid _ (blank (layout.otadata + 4096 * sector) (omega arith) (omega arith))

  -- the factory slot begins with the image, and so holds it
  holds : held (slot_of layout.factory flash) ≡ Some image
  holds =
      let end = place.inside in
      let most = whole.fits in
      let slot = slot_of layout.factory flash in
      let begins : take (length image) slot ≡ image =
      take-take (length image) layout.factory.size (drop layout.factory.offset flash) most
      ∙ part_there base layout.factory.offset image fits in
      let wide : length slot ≡ layout.factory.size =
      length-take-le layout.factory.size (drop layout.factory.offset flash)
      (omega (arith, length-drop layout.factory.offset flash, length-flash, end)) in
      held_from slot image begins (subst (Whole image) (sym wide) whole)

  -- with it the factory application boots, since neither entry has a vote
  boots : boots_in held layout flash ≡ Some (Factory, image)
  boots =
      let images = images_in held layout flash in
      let es = entries_in layout flash in
      let none : (sector : ℕ) → sector < 2 → vote (es sector) ≡ None =
      λ sector low. invalid_vote (es sector) (invalid sector low) in
      boots_at layout images es 0 (omega arith)
      ∙ ap (λ v. first_held images (candidates layout (named_seq layout (pick v (vote (es 1))))))
      (none 0 (omega arith))
      ∙ ap (λ v. first_held images (candidates layout (named_seq layout (pick None v))))
      (none 1 (omega arith))
      ∙ named_boots layout images None Factory image refl holds

  -- so it is one as it is written at a factory
  factory_flash : layout_in flash ≡ Ok layout → IsFactoryFlash flash image
  factory_flash laid = record {
    layout = layout;
    laid = laid;
    holds = holds;
    named = names_factory layout _ _ (invalid 0 (omega arith)) (invalid 1 (omega arith));
    boots = boots;
  }

  -- by its own table it has this layout
  laid_out : table_of (table_text rows) size ≡ Ok rows → layout_of rows ≡ Ok layout → layout_in flash ≡ Ok layout
  unfolding layout_in
  laid_out read is = (λ i. layout_by (table_of (table_there i) (length-flash i))) ∙ ap layout_by read ∙ is

-- From what the verifier of images promises.
module _ (no_fault : (limit : ℕ) (bytes : List ℕ) → (bad limit bytes ≡ None ↔ Whole bytes limit))
    (size : ℕ) (image flash : List ℕ) where
  -- a table's rows with a layout and an image that fits
  by_image : (rows : List Row) (layout : Places) (fault : Option BadImage) → TableOf (table_text rows) size rows
      → layout_of rows ≡ Ok layout → bad layout.factory.size image ≡ fault
      → unless_bad fault (flash_with size rows layout.factory.offset image) ≡ Ok flash
      → IsFactoryFlash flash image
  unfolding flash_with
  by_image rows layout (Some why) text laid fault is = absurd (cc)
  by_image rows layout None text laid none is =
      let lies = placed size rows layout text.rules (layout_of-means rows layout laid) in
      let whole = (no_fault layout.factory.size image).0 none in
      let made : with_at layout.factory.offset image (with_at 0x8000 (table_text rows) (erased_flash size)) ≡ flash = cc in
      subst (λ (f : List ℕ). IsFactoryFlash f image) made
      (factory_flash size rows layout image lies text.size whole
      (laid_out size rows layout image lies text.size whole (table_of-text (table_text rows) size rows text) laid))

  -- by their layout
  by_layout : (rows : List Row) (layout : Result Places TableBad) → TableOf (table_text rows) size rows
      → layout_of rows ≡ layout → flash_by_layout size rows layout image ≡ Ok flash
      → IsFactoryFlash flash image
  by_layout rows (Err why) text laid is = absurd (cc)
  by_layout rows (Ok layout) text laid is = by_image rows layout (bad layout.factory.size image) text laid refl is

  -- by the rows of the table file
  by_rows : (table : List ℕ) (rows : Result (List Row) Refusal) → All (λ b. b < 256) table
      → file_rows table size ≡ rows → flash_by_rows size rows image ≡ Ok flash → IsFactoryFlash flash image
  by_rows table (Err why) small read is = absurd (cc)
  by_rows table (Ok rows) small read is =
      let text = table_read table size rows small read in
      by_layout rows (layout_of rows) (table_text-means size rows text.few text.sized text.rules) refl is

  -- a flash that is made is one as it is written at a factory
  pub factory_made : (table : List ℕ) → All (λ b. b < 256) table → made_flash table image size ≡ Ok flash
      → IsFactoryFlash flash image
  unfolding made_flash
  factory_made table small is = by (is_flash_size size) is
    where
      by : (fits : Bool)
          → (if fits then flash_by_rows size (file_rows table size) image else Err (FlashSize size)) ≡ Ok flash
          → IsFactoryFlash flash image
      by false is = absurd (cc)
      by true is = by_rows table (file_rows table size) small refl is
