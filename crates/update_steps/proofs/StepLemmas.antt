-- The steps of an update by the cases of its image, how many they are, and when an update opens.
use Rattle.std.proofs.Common.{◌==◌, ◌≡◌, ◌≢◌, false, ℕ, ◌+◌, ◌/◌, ◌<◌, ◌≤◌, List, [], ◌∷◌, length, slice_get, Option, Some, None, refl, sym, ap, ◌∙◌, arith}
use Rattle.std.specs.Prelude.{if◌then◌else◌}
use Rattle.std.specs.List.{All}
use Rattle.std.proofs.lemmas.Bool.Decides.{nat_tests}
use Rattle.std.proofs.lemmas.List.{length-append}
use Rattle.partition_table.specs.declared.row.Row.{Row}
use Rattle.partition_table.specs.Layout.{IsPlaced, Places}
use Rattle.otadata.specs.Entry.{IsStored}
use Rattle.boot_select.specs.Boots.{entries_in, images_in}
use Rattle.rollback.proofs.PairLemmas.{boots_holds}
use Rattle.image_layout.specs.Whole.{Whole}
use Rattle.image_verify.specs.declared.bad.BadImage.{BadImage}
use Rattle.image_verify.specs.Bad.{bad}
use Rattle.image_verify.specs.Held.{held}
use Rattle.flash_steps.specs.Steps.{pages_in, write_steps}
use Rattle.flash_steps.proofs.EraseLemmas.{count_of_erase}
use Rattle.flash_steps.proofs.WriteLemmas.{count_of_write}
use Rattle.boot_run.specs.Rewriting.{rewrite}
use Rattle.boot_run.specs.declared.aims.Aim.{Aim}
use Rattle.boot_run.specs.Aim.{IsAimed}
use Rattle.boot_run.proofs.AimLemmas.{aim_begins}
use Rattle.update_steps.specs.Driver.{data_steps, driver_steps, next_rewrite, sealed_steps, slot_erases, step_count, steps_to, whole_sectors}
use Rattle.update_steps.specs.Session.{IsOpening}
use Rattle.update_steps.proofs.SessionLemmas.{ShowsNone, driver_is, session_steps}

-- ---- by the bytes of the image

-- none where there is no byte
pub empty_steps : (layout : Places) (aim : Aim) → driver_steps layout aim [] ≡ []
unfolding driver_steps
empty_steps layout aim = by (slice_get layout.slots aim.slot)
  where
    by : (found : Option Row) → steps_to layout.otadata found (next_rewrite aim) [] ≡ []
    by None = refl
    by (Some row) = refl

-- the erases where the first byte is another
pub unmarked_steps : (layout : Places) (aim : Aim) (row : Row) (byte : ℕ) (bytes : List ℕ)
    → slice_get layout.slots aim.slot ≡ Some row → byte ≢ 0xE9
    → driver_steps layout aim (byte ∷ bytes) ≡ slot_erases row.offset (byte ∷ bytes)
unmarked_steps layout aim row byte bytes is other =
    let image : List ℕ = byte ∷ bytes in
    let test : (byte == 0xE9) ≡ false = grind (arith, nat_tests) in
    driver_is layout aim image row is
    ∙ ap (λ t. if t
    then sealed_steps (bad row.size image) (data_steps row.offset image)
    (rewrite layout.otadata (next_rewrite aim))
    else slot_erases row.offset image) test

-- the data where the bytes show a fault
pub bad_steps : (layout : Places) (aim : Aim) (row : Row) (bytes : List ℕ) (why : BadImage)
    → slice_get layout.slots aim.slot ≡ Some row → bad row.size (0xE9 ∷ bytes) ≡ Some why
    → driver_steps layout aim (0xE9 ∷ bytes) ≡ data_steps row.offset (0xE9 ∷ bytes)
bad_steps layout aim row bytes why is faulty =
    let image : List ℕ = 0xE9 ∷ bytes in
    driver_is layout aim image row is
    ∙ ap (λ found. sealed_steps found (data_steps row.offset image)
    (rewrite layout.otadata (next_rewrite aim))) faulty

-- ---- how many they are

pub count_steps : ShowsNone → (layout : Places) (aim : Aim) (image : List ℕ) (row : Row)
    → slice_get layout.slots aim.slot ≡ Some row → Whole image row.size
    → length (driver_steps layout aim image) ≡ step_count row.offset (length image)
count_steps shown layout aim image row is whole =
    let erases = slot_erases row.offset image in
    let writes = write_steps row.offset image in
    let entry = rewrite layout.otadata (next_rewrite aim) in
    let len = length image in
    let sectors : whole_sectors len / 4096 ≡ (len + 4095) / 4096 = omega arith in
    let first : length erases ≡ (len + 4095) / 4096 =
    count_of_erase row.offset (whole_sectors len) ∙ sectors in
    let second : length writes ≡ pages_in row.offset len = count_of_write row.offset image in
    ap length (session_steps shown layout aim image row is whole)
    ∙ length-append (data_steps row.offset image) entry
    ∙ ap (λ n. n + 2) (length-append erases writes ∙ (λ i. first i + second i))

-- of 168,016 and of 200,000 bytes
known_counts : (step_count 0x110000 168016 ≡ 701) × (step_count 0x110000 200000 ≡ 833)
unfolding pages_in
known_counts = (refl, refl)

-- ---- when an update opens

-- where it is aimed, an update opens
pub aimed_opens : (layout : Places) (flash : List ℕ) (aim : Aim) (old new : List ℕ)
    → IsPlaced layout (length flash) → 0 < length layout.slots → length layout.slots ≤ 16
    → IsAimed layout (images_in held layout flash) (entries_in layout flash) (length new) aim
    → images_in held layout flash aim.running ≡ Some old
    → IsStored aim.next.entry → All (λ b. b < 256) new → IsOpening layout flash aim old new
aimed_opens layout flash aim old new placed some few aimed runs stored bytes =
    let begins = aim_begins layout (images_in held layout flash) (entries_in layout flash)
    (length new) aim some aimed in
    let first = boots_holds layout (images_in held layout flash) (entries_in layout flash)
    aim.running begins.image begins.settled.booted in
    record {
      placed = placed;
      few = few;
      begins = begins;
      old_is = let both = sym first ∙ runs in cc;
      stored = stored;
      bytes = bytes;
      length_is = sym aimed.length;
    }
