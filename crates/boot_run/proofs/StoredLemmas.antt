-- An entry that was rewritten is read back as it was written, and so what boots is told by the
-- flash that a boot's rewrites leave.
use Rattle.std.proofs.Common.{◌==◌, true, false, ◌≡◌, ◌≢◌, ◌⊎◌, inl, inr, ℕ, zero, suc, ◌+◌, ◌-◌, ◌*◌, ◌/◌, ◌%◌, ◌<◌, ◌≤◌, List, [], ◌∷◌, ◌++◌, All, length, drop, refl, sym, ap, ◌∙◌, subst, arith, length-drop}
use Rattle.std.specs.Prelude.{slice_index, bit_and}
use Rattle.std.specs.Int.{byte_at, bytes_low_first}
use Rattle.std.proofs.lemmas.Bool.{cases_Bool}
use Rattle.std.proofs.lemmas.Bool.Decides.{nat_tests}
use Rattle.std.proofs.lemmas.Nat.{and_comm, and_mask}
use Rattle.std.proofs.lemmas.List.{ext_get_or, length-take, get_or-take, get_or-drop}
use Rattle.std.proofs.lemmas.List.Elements.{All-nil, All-cons, All-append, All-get_or}
use Rattle.nor_device.specs.declared.step.Step.{Step}
use Rattle.nor_device.specs.declared.step.Step.TheVariants.{Erase, Program}
use Rattle.nor_device.specs.Flash.{after_steps, applied, byte_after}
use Rattle.nor_device.specs.Nor.{part_of}
use Rattle.nor_device.proofs.FlashLaws.{after_steps_append, byte_after_inside, byte_applied, length_applied, length-after_steps}
use Rattle.crash_images.proofs.LeftLaws.{left_end}
use Rattle.partition_table.specs.Layout.{Places, IsPlaced}
use Rattle.otadata.specs.declared.entry.Entry.{Entry}
use Rattle.otadata.specs.Entry.{IsStored, entry_bytes, entry_of}
use Rattle.otadata.proofs.EntryLemmas.{entry_in-stored, entry_of-all, length-entry_bytes}
use Rattle.boot_select.specs.Choice.{named_of}
use Rattle.boot_select.specs.Candidates.{candidates}
use Rattle.boot_select.specs.Boots.{entries_in, first_held, images_in, names}
use Rattle.image_verify.specs.Held.{held}
use Rattle.rollback.specs.declared.rewrite.Rewrite.{Rewrite}
use Rattle.rollback.specs.Rewrite.{changed, written}
use Rattle.rollback.specs.Boot.{boot_writes}
use Rattle.rollback.specs.Boots.{boots, boots_in}
use Rattle.rollback.specs.Pair.{other_of}
use Rattle.rollback.proofs.EntriesLemmas.{written_same}
use Rattle.boot_run.specs.Rewriting.{rewrite, rewrites}
use Rattle.boot_run.specs.Crashed.{IsRestated}
use Rattle.boot_run.proofs.FrameLemmas.{left_images, left_other}
use Rattle.boot_run.proofs.WritesLemmas.{AreRewrites, boot_are, boot_short}
use Rattle.boot_run.proofs.CrashLemmas.{label_short}

-- a byte of a number is a byte
byte_small : (i x : ℕ) → byte_at i x < 256
byte_small zero x = omega arith
byte_small (suc i) x = omega arith

-- so are those of its bytes
low_small : (i n x : ℕ) → All (λ b. b < 256) (bytes_low_first i n x)
low_small i zero x = All-nil (λ (b : ℕ). b < 256)
low_small i (suc n) x =
    All-cons (λ (b : ℕ). b < 256) (byte_at i x) (bytes_low_first (suc i) n x) (byte_small i x)
    (low_small (suc i) n x)

-- the bytes of an entry are bytes
entry_small : (e : Entry) → All (λ b. b < 256) e.label → All (λ b. b < 256) (entry_bytes e)
unfolding entry_bytes
entry_small e small =
    let P : ℕ → Type 0 = λ b. b < 256 in
    let seq = bytes_low_first 0 4 e.seq in
    let state = bytes_low_first 0 4 e.state in
    let crc = bytes_low_first 0 4 e.crc in
    All-append P (seq ++ e.label ++ state) crc
    (All-append P (seq ++ e.label) state
    (All-append P seq e.label (low_small 0 4 e.seq) small) (low_small 0 4 e.state))
    (low_small 0 4 e.crc)

-- a byte ANDed into one that was erased stands there
and_erased : (byte : ℕ) → byte < 256 → bit_and 255 byte ≡ byte
and_erased byte small = and_comm 255 byte ∙ and_mask byte 8 ∙ low
  where
    low : byte % 256 ≡ byte
    low = omega arith

-- the 32 bytes that a rewrite leaves are the entry's
rewritten_bytes : (otadata : ℕ) (flash : List ℕ) (write : Rewrite) → otadata % 4096 ≡ 0
    → otadata + 4096 * write.sector + 4096 ≤ length flash → IsStored write.entry
    → part_of (after_steps flash (rewrite otadata write)) (otadata + 4096 * write.sector) 32
    ≡ entry_bytes write.entry
rewritten_bytes otadata flash write aligned inside stored =
    ext_get_or 0 (part_of left at 32) page (omega (
      arith,
      long,
      size,
      length-take 32 (drop at left),
      length-drop at left,
    )) (λ i within.
    let short : i < 32 = omega (arith, within, length-take 32 (drop at left)) in
    let here : at + i < length flash = omega arith in
    let mid_here : at + i < length mid = omega (arith, length_applied flash erase) in
    get_or-take 32 (drop at left) i 0 short ∙ get_or-drop at left i 0
    ∙ byte_applied mid program (at + i) mid_here
    ∙ ap (byte_after program (at + i)) (byte_applied flash erase (at + i) here
    ∙ byte_after_inside erase (at + i) (slice_index flash (at + i)) (omega arith) (omega arith))
    ∙ byte_after_inside program (at + i) 255 (omega arith) (omega (arith, long))
    ∙ ap (λ n. bit_and 255 (slice_index page n)) (same i)
    ∙ and_erased (slice_index page i)
    (All-get_or (λ (b : ℕ). b < 256) page i 0 (omega (arith, long))
    (entry_small write.entry stored.label)))
  where
    at : ℕ
    at = otadata + 4096 * write.sector

    page : List ℕ
    page = entry_bytes write.entry

    erase : Step
    erase = Erase (otadata / 4096 + write.sector)

    program : Step
    program = Program (otadata + 4096 * write.sector) (entry_bytes write.entry)

    mid : List ℕ
    mid = applied flash erase

    left : List ℕ
    left = applied mid program

    long : length page ≡ 32
    long = omega (arith, length-entry_bytes write.entry, stored.sized.label)

    size : length left ≡ length flash
    size = length_applied mid program ∙ length_applied flash erase

    same : (i : ℕ) → (at + i) - (otadata + 4096 * write.sector) ≡ i
    same i = omega arith

-- the entry that was written is read back
pub rewritten_entry : (layout : Places) (flash : List ℕ) (write : Rewrite) → layout.otadata % 4096
    ≡ 0
    → layout.otadata + 4096 * write.sector + 4096 ≤ length flash → IsStored write.entry
    → entries_in layout (after_steps flash (rewrite layout.otadata write)) write.sector
    ≡ write.entry
rewritten_entry layout flash write aligned inside stored =
    ap entry_of (rewritten_bytes layout.otadata flash write aligned inside stored)
    ∙ entry_of-all write.entry stored.sized

-- so the entries after a rewrite are the changed ones
pub entries_changed : (layout : Places) (flash : List ℕ) (write : Rewrite)
    → IsPlaced layout (length flash)
    → write.sector < 2 → IsStored write.entry → (y : ℕ) → y < 2
    → entries_in layout (after_steps flash (rewrite layout.otadata write)) y
    ≡ changed write (entries_in layout flash) y
entries_changed layout flash write placed two stored y below = at (cases_Bool (y == write.sector))
  where
    left : List ℕ
    left = after_steps flash (rewrite layout.otadata write)

    at : ((y == write.sector) ≡ true) ⊎ ((y == write.sector) ≡ false)
        → entries_in layout left y ≡ changed write (entries_in layout flash) y
    at (inl p) =
        let same : y ≡ write.sector = grind (arith, nat_tests) in
        let inside : layout.otadata + 4096 * write.sector + 4096 ≤ length flash = omega
        (arith, placed.inside, two) in
        rw p (ap (entries_in layout left) same ∙ rewritten_entry layout flash write placed.aligned
        inside stored)
    at (inr p) =
        let other : y ≡ other_of write.sector =
        (let apart : y ≢ write.sector = grind (arith, nat_tests) in omega arith) in
        let kept = left_other layout flash left write placed.aligned two
        (omega (arith, stored.sized.label))
        (left_end flash (rewrite layout.otadata write)) in
        rw p (ap (entries_in layout left) other ∙ kept ∙ ap (entries_in layout flash) (sym other))

-- each of the rewrites is of one of the two sectors, and its entry is one that 32 bytes hold
abbrev pub AreStored : List Rewrite → Type 0
AreStored [] = Unit {0}
AreStored (write ∷ writes) = ((write.sector < 2) × IsStored write.entry) × AreStored writes

-- and those after rewrites, one after the other
pub entries_written : (layout : Places) (flash : List ℕ) (writes : List Rewrite)
    → IsPlaced layout (length flash)
    → AreStored writes → (y : ℕ) → y < 2
    → entries_in layout (after_steps flash (rewrites layout.otadata writes)) y
    ≡ written writes (entries_in layout flash) y
entries_written layout flash [] placed stored y below = refl
entries_written layout flash (write ∷ writes) placed stored y below =
    let steps = rewrite layout.otadata write in
    let mid = after_steps flash steps in
    let long : length mid ≡ length flash = length-after_steps flash steps in
    ap (λ f. entries_in layout f y)
    (after_steps_append flash steps (rewrites layout.otadata writes))
    ∙ entries_written layout mid writes (subst (IsPlaced layout) (sym long) placed) stored.1 y below
    ∙ written_same writes (changed write (entries_in layout flash)) (entries_in layout mid) y
    (entries_changed layout flash write placed stored.0.0 stored.0.1 y below)

-- a rewrite of a stored entry is stored
restated_stored : (es : ℕ → Entry) → ((y : ℕ) → y < 2 → IsStored (es y)) → (write : Rewrite)
    → IsRestated es write
    → IsStored write.entry
restated_stored es stored write is =
    let e = stored write.sector is.two in
    subst (λ (w : Rewrite). IsStored w.entry) (sym is.is) (record {
      sized = record {
        seq = e.sized.seq;
        label = e.sized.label;
        state = is.fits;
        crc = e.sized.crc;
      };
      label = e.label;
    })

pub boot_stored : (es : ℕ → Entry) → ((y : ℕ) → y < 2 → IsStored (es y)) → (writes : List Rewrite)
    → AreRewrites es writes → AreStored writes
boot_stored es stored [] are = tt
boot_stored es stored (w ∷ []) are = ((are.two, restated_stored es stored w are), tt)
boot_stored es stored (w ∷ v ∷ []) are = (
  (are.0.two, restated_stored es stored w are.0),
  ((are.1.two, restated_stored es stored v are.1), tt),
)
boot_stored es stored (w ∷ v ∷ u ∷ ws) are = absurd are

-- what boots is the first candidate of the flash that the rewrites of a boot leave whose partition
-- holds an image
pub boots_after : (layout : Places) (flash : List ℕ) → IsPlaced layout (length flash)
    → All (λ b. b < 256) flash
    → boots_in held layout flash
    ≡ first_held (images_in held layout
    (after_steps flash (rewrites layout.otadata (boot_writes (entries_in layout flash)))))
    (candidates layout (names layout (entries_in layout
    (after_steps flash (rewrites layout.otadata (boot_writes (entries_in layout flash)))))))
unfolding boots
boots_after layout flash placed small =
    let es = entries_in layout flash in
    let writes = boot_writes es in
    let left = after_steps flash (rewrites layout.otadata writes) in
    let images : images_in held layout left ≡ images_in held layout flash =
    left_images held layout (length flash) flash left writes placed
    (boot_short es (λ y two. label_short layout flash y) writes (boot_are es))
    (left_end flash (rewrites layout.otadata writes)) in
    let stored : AreStored writes = boot_stored es (λ y two. entry_in-stored flash layout.otadata y
    (omega (arith, placed.inside)) small) writes (boot_are es) in
    let zeroth = entries_written layout flash writes placed stored 0 (omega arith) in
    let other = entries_written layout flash writes placed stored 1 (omega arith) in
    sym (ap (λ h. first_held h (candidates layout (names layout (entries_in layout left)))) images
    ∙ (λ i. first_held (images_in held layout flash)
    (candidates layout (named_of layout (zeroth i) (other i)))))
