-- Whatever a loss of power leaves of an update: the old application boots, or the new one, or what
-- is found in the sector of the next entry matches by chance.
use Rattle.std.proofs.Common.{◌==◌, ◌≡◌, ◌≢◌, ◌⊎◌, ◌↔◌, inl, inr, true, false, ℕ, ◌+◌, ◌<◌, ◌≤◌, List, [], ◌∷◌, ◌++◌, length, slice_get, Option, Some, None, refl, sym, ap, ◌∙◌, subst, arith}
use Rattle.std.specs.Prelude.{if◌then◌else◌, slice_index}
use Rattle.std.proofs.lemmas.Bool.{cases_Bool}
use Rattle.std.proofs.lemmas.Bool.Decides.{nat_tests}
use Rattle.std.proofs.lemmas.Option.{slice_get_within}
use Rattle.nor_device.specs.declared.step.Step.{Step}
use Rattle.nor_device.specs.Flash.{after_steps}
use Rattle.nor_device.proofs.FlashLaws.{after_steps_append, length-after_steps}
use Rattle.crash_images.specs.Crash.{LeftAfter}
use Rattle.crash_images.specs.Agrees.{Covers, IsBeside}
use Rattle.crash_images.proofs.AgreesLaws.{left_agrees}
use Rattle.crash_images.proofs.LeftLaws.{left_append, left_begin, left_end, left_front, left_none}
use Rattle.partition_table.specs.declared.app.App.{App}
use Rattle.partition_table.specs.declared.app.App.TheVariants.{Ota}
use Rattle.partition_table.specs.declared.row.Row.{Row}
use Rattle.partition_table.specs.Rules.{Stands, is_within}
use Rattle.partition_table.specs.Layout.{Places, layout_in, row_for}
use Rattle.otadata.specs.declared.entry.Entry.{Entry}
use Rattle.boot_select.specs.Target.{Heralds}
use Rattle.boot_select.specs.Boots.{Images, entries_in, images_in}
use Rattle.boot_select.proofs.StartLemmas.{images_are_placed}
use Rattle.boot_select.proofs.TargetLemmas.{aim-heralds}
use Rattle.rollback.specs.declared.rewrite.Rewrite.{Rewrite}
use Rattle.rollback.specs.Boots.{IsSettled, boots, boots_in}
use Rattle.rollback.specs.Pair.{IsHarmless, IsPair, Keeps, other_of}
use Rattle.rollback.proofs.PairLemmas.{boots_holds, pair_boots, still_boots}
use Rattle.rollback.proofs.UpdateLemmas.{behind_pair, data_boots, new_boots, start_pair}
use Rattle.image_layout.specs.Whole.{Whole, summed}
use Rattle.image_verify.specs.declared.bad.BadImage.{BadImage}
use Rattle.image_verify.specs.Bad.{bad}
use Rattle.image_verify.specs.Held.{held}
use Rattle.boot_run.specs.declared.aims.Aim.{Aim}
use Rattle.boot_run.specs.Rewriting.{rewrite}
use Rattle.boot_run.proofs.FrameLemmas.{left_images, left_other, rewrites_within, same_layout}
use Rattle.boot_run.proofs.StoredLemmas.{rewritten_entry}
use Rattle.update_steps.specs.Driver.{data_steps, driver_steps, image_steps, next_rewrite, sealed_steps, slot_erases, steps_to}
use Rattle.flash_steps.specs.Steps.{write_steps}
use Rattle.update_steps.specs.Session.{BootsOldOrNew, IsOpening, LeavesPair, MatchesByChance}
use Rattle.update_steps.proofs.DataLemmas.{data_held, left_beside, left_entries, left_others}

-- ---- the list by its parts

-- whole images are those that show no fault: a law of the verifier
abbrev pub ShowsNone : Type 0
ShowsNone = (limit : ℕ) (bytes : List ℕ) → (bad limit bytes ≡ None ↔ Whole bytes limit)

-- a whole image begins with its mark
whole_begins : (byte : ℕ) (bytes : List ℕ) (limit : ℕ) → Whole (byte ∷ bytes) limit → byte ≡ 0xE9
whole_begins byte bytes limit whole =
    at whole.parts.header whole.image.header whole.image.magic whole.text
  where
    at : (header : List ℕ) → length header ≡ 24 → slice_index header 0 ≡ 0xE9
        → byte ∷ bytes ≡ summed (record {
          header = header;
          segments = whole.parts.segments;
          padding = whole.parts.padding;
          checksum = whole.parts.checksum;
          digest = whole.parts.digest;
        }) ++ whole.parts.digest
        → byte ≡ 0xE9
    at [] long magic text = absurd (omega arith)
    at (h ∷ hs) long magic text = let same : byte ≡ h = cc text in same ∙ magic

-- of a whole image the steps are the data and then the entry
pub image_whole : ShowsNone → (otadata : ℕ) (row : Row) (next : Rewrite) (image : List ℕ)
    → Whole image row.size
    → image_steps otadata row next image
    ≡ data_steps row.offset image ++ rewrite otadata next
image_whole shown otadata row next [] whole =
    absurd (at whole.parts.header whole.image.header whole.text)
  where
    at : (header : List ℕ) → length header ≡ 24
        → [] ≡ summed (record {
          header = header;
          segments = whole.parts.segments;
          padding = whole.parts.padding;
          checksum = whole.parts.checksum;
          digest = whole.parts.digest;
        }) ++ whole.parts.digest
        → ⊥
    at [] long text = omega arith
    at (h ∷ hs) long text = cc text
image_whole shown otadata row next (byte ∷ bytes) whole =
    let image : List ℕ = byte ∷ bytes in
    let marked : byte ≡ 0xE9 = whole_begins byte bytes row.size whole in
    let test : (byte == 0xE9) ≡ true = grind (arith, nat_tests) in
    let none : bad row.size image ≡ None = (shown row.size image).1 whole in
    ap (λ t. if t
    then sealed_steps (bad row.size image) (data_steps row.offset image) (rewrite otadata next)
    else slot_erases row.offset image) test
    ∙ ap (λ found. sealed_steps found (data_steps row.offset image) (rewrite otadata next)) none

-- what may be left of the steps may be left of the data, or of the entry behind a whole image
image_left : ShowsNone → (flash left : List ℕ) (otadata : ℕ) (row : Row) (next : Rewrite)
    (image : List ℕ)
    → LeftAfter flash (image_steps otadata row next image) left
    → LeftAfter flash (data_steps row.offset image) left
    ⊎ (Whole image row.size
    × LeftAfter (after_steps flash (data_steps row.offset image)) (rewrite otadata next) left)
image_left shown flash left otadata row next [] after =
    inl (subst (λ (f : List ℕ). LeftAfter flash (data_steps row.offset []) f)
    (sym (left_none flash left after)) (left_begin flash (data_steps row.offset [])))
image_left shown flash left otadata row next (byte ∷ bytes) after =
    first (cases_Bool (byte == 0xE9))
  where
    image : List ℕ
    image = byte ∷ bytes

    loads : List Step
    loads = data_steps row.offset image

    sealed : (found : Option BadImage) → bad row.size image ≡ found
        → LeftAfter flash (sealed_steps found loads (rewrite otadata next)) left
        → LeftAfter flash loads left
        ⊎ (Whole image row.size × LeftAfter (after_steps flash loads) (rewrite otadata next) left)
    sealed None none here = elim (left_append flash loads (rewrite otadata next) left here) [
      | inl early ↦ inl early
      | inr later ↦ inr ((shown row.size image).0 none, later)
    ]
    sealed (Some why) some here = inl here

    first : ((byte == 0xE9) ≡ true) ⊎ ((byte == 0xE9) ≡ false)
        → LeftAfter flash loads left
        ⊎ (Whole image row.size × LeftAfter (after_steps flash loads) (rewrite otadata next) left)
    first (inl p) = sealed (bad row.size image) refl
        (subst (λ t. LeftAfter flash (if t
        then sealed_steps (bad row.size image) loads (rewrite otadata next)
        else slot_erases row.offset image) left) p after)
    first (inr p) = inl (left_front flash (slot_erases row.offset image)
        (write_steps row.offset image) left
        (subst (λ t. LeftAfter flash (if t
        then sealed_steps (bad row.size image) loads (rewrite otadata next)
        else slot_erases row.offset image) left) p after))

-- the steps by the partition of their slot
pub driver_is : (layout : Places) (aim : Aim) (image : List ℕ) (row : Row)
    → slice_get layout.slots aim.slot ≡ Some row
    → driver_steps layout aim image ≡ image_steps layout.otadata row (next_rewrite aim) image
unfolding driver_steps
driver_is layout aim image row is =
    ap (λ found. steps_to layout.otadata found (next_rewrite aim) image) is

-- ---- pairs and places

-- an application's partition lies behind the table
row_behind : (size : ℕ) (row : Row) → Stands size row → 0x9000 ≤ row.offset
unfolding is_within
row_behind size row stands = let within = stands.within in grind (arith, nat_tests)

-- a pair stays one where the entries are the same
pub pair_same : (layout : Places) (images : Images) (es gs : ℕ → Entry) (y : ℕ) (app : App)
    (image : List ℕ) (slot : ℕ) (target : List ℕ) → y < 2
    → ((sector : ℕ) → sector < 2 → gs sector ≡ es sector)
    → IsPair layout images es y app image slot target
    → IsPair layout images gs y app image slot target
pair_same layout images es gs y app image slot target two same pair =
    let here = same y two in
    let other = same (other_of y) (omega arith) in
    record {
      two = two;
      holds = pair.holds;
      apart = pair.apart;
      keeps = subst (Keeps layout app y) (sym other) pair.keeps;
      harmless = subst (λ e. IsHarmless layout images app slot target e (gs y)) (sym other)
          (subst (λ e. IsHarmless layout images app slot target (es (other_of y)) e) (sym here)
          pair.harmless);
    }

-- ---- what is known where an update begins

module _ (layout : Places) (flash : List ℕ) (aim : Aim) (old new : List ℕ)
    (opening : IsOpening layout flash aim old new) where
  abbrev es : ℕ → Entry
  es = entries_in layout flash

  abbrev hs : Images
  hs = images_in held layout flash

  abbrev row : Row
  row = opening.begins.row

  row_is : row_for layout (Ota aim.slot) ≡ Some row
  row_is = opening.begins.row_is

  fits : length new ≤ row.size
  fits = let less = opening.begins.fits in let same = opening.length_is in omega arith

  settled : IsSettled layout hs es aim.running old
  settled = subst (IsSettled layout hs es aim.running) opening.old_is opening.begins.settled

  runs : hs aim.running ≡ Some old
  runs = boots_holds layout hs es aim.running old settled.booted

  some : 0 < length layout.slots
  some =
      let within = slice_get_within layout.slots aim.slot row opening.begins.row_is in
      omega arith

  heralds : Heralds layout es aim.running aim.next.sector aim.slot aim.next.entry
  heralds = aim-heralds layout es aim.running aim.slot aim.next some opening.few opening.begins.aims

  two : aim.next.sector < 2
  two = (start_pair layout hs hs es aim.running old aim.next.sector aim.slot aim.next.entry new
      settled heralds opening.begins.apart runs).two

  apart : Ota aim.slot ≢ aim.running
  apart same = opening.begins.apart (sym same)

  abbrev mid : List ℕ
  mid = after_steps flash (data_steps row.offset new)

  size : length mid ≡ length flash
  size = length-after_steps flash (data_steps row.offset new)

  -- ---- within the data

  -- the old application keeps its image
  data_old : (left : List ℕ) → LeftAfter flash (data_steps row.offset new) left
      → images_in held layout left aim.running ≡ Some old
  data_old left after =
      left_others layout flash left new (Ota aim.slot) aim.running row opening.placed row_is fits
      apart after ∙ runs

  -- the entries stay
  data_entries : (left : List ℕ) → LeftAfter flash (data_steps row.offset new) left
      → (sector : ℕ) → sector < 2 → entries_in layout left sector ≡ es sector
  data_entries left after =
      left_entries layout flash left new (Ota aim.slot) row opening.placed row_is fits after

  -- so the old application boots
  pub left_data : (left : List ℕ) → LeftAfter flash (data_steps row.offset new) left
      → boots_in held layout left ≡ Some (aim.running, old)
  left_data left after =
      data_boots layout hs (images_in held layout left) es (entries_in layout left) aim.running old
      settled (data_entries left after 0 (omega arith)) (data_entries left after 1 (omega arith))
      (data_old left after)

  -- ---- behind the data, where the image is whole

  -- both applications keep their images, and the other entry stays
  behind_old : (left : List ℕ) → LeftAfter mid (rewrite layout.otadata (next_rewrite aim)) left
      → images_in held layout left ≡ images_in held layout mid
  behind_old left after =
      left_images held layout (length flash) mid left (next_rewrite aim ∷ []) opening.placed
      ((two, short), tt) after
    where
      short : length aim.next.entry.label ≤ 20
      short = omega (arith, opening.stored.sized.label)

  behind_other : (left : List ℕ) → LeftAfter mid (rewrite layout.otadata (next_rewrite aim)) left
      → entries_in layout left (other_of aim.next.sector) ≡ es (other_of aim.next.sector)
  behind_other left after =
      left_other layout mid left (next_rewrite aim) opening.placed.aligned two
      (omega (arith, opening.stored.sized.label)) after
      ∙ data_entries mid (left_end flash (data_steps row.offset new)) (other_of aim.next.sector)
      (omega arith)

  mid_old : images_in held layout mid aim.running ≡ Some old
  mid_old = data_old mid (left_end flash (data_steps row.offset new))

  mid_new : Whole new row.size → images_in held layout mid (Ota aim.slot) ≡ Some new
  mid_new whole =
      data_held layout flash new (Ota aim.slot) row opening.placed row_is whole opening.bytes

  -- so there is a pair, or the entry matches by chance
  behind : Whole new row.size → (left : List ℕ)
      → LeftAfter mid (rewrite layout.otadata (next_rewrite aim)) left
      → MatchesByChance layout flash aim left ⊎ LeavesPair layout aim old new left
  behind whole left after =
      let same = behind_old left after in
      behind_pair layout hs (images_in held layout left) es (entries_in layout left) aim.running old
      aim.next.sector aim.slot aim.next.entry new settled heralds opening.begins.apart
      (ap (λ images. images aim.running) same ∙ mid_old)
      (ap (λ images. images (Ota aim.slot)) same ∙ mid_new whole)
      (behind_other left after)

  -- ---- at every moment

  -- what is left is left of the data, or of the entry behind them
  abbrev IsWithin : List ℕ → Type 0
  IsWithin left = LeftAfter flash (data_steps row.offset new) left
      ⊎ (Whole new row.size × LeftAfter mid (rewrite layout.otadata (next_rewrite aim)) left)

  within : ShowsNone → (left : List ℕ) → LeftAfter flash (driver_steps layout aim new) left
      → IsWithin left
  within shown left after =
      image_left shown flash left layout.otadata row (next_rewrite aim) new
      (subst (λ (steps : List Step). LeftAfter flash steps left)
      (driver_is layout aim new row opening.begins.row_is) after)

  -- the old application boots or the new one, or the entry matches by chance
  pub left_boots : ShowsNone → (left : List ℕ) → LeftAfter flash (driver_steps layout aim new) left
      → BootsOldOrNew layout flash aim opening.begins.row.size old new left
  left_boots shown left after = elim (within shown left after) [
    | inl early ↦ inl (left_data left early)
    | inr later ↦ elim (behind later.0 left later.1) [
      | inl chance ↦ inr (later.0, inr chance)
      | inr pair ↦ elim (pair_boots layout (images_in held layout left) (entries_in layout left)
          aim.next.sector aim.running old aim.slot new pair) [
            | inl one ↦ inl one
            | inr other ↦ inr (later.0, inl other)
          ]
    ]
  ]

  -- there is a pair, or the entry matches by chance
  pub left_pair : ShowsNone → (left : List ℕ) → LeftAfter flash (driver_steps layout aim new) left
      → LeavesPair layout aim old new left ⊎ MatchesByChance layout flash aim left
  left_pair shown left after = elim (within shown left after) [
    | inl early ↦ inl (early_pair early)
    | inr later ↦ elim (behind later.0 left later.1) [
      | inl chance ↦ inr chance
      | inr pair ↦ inl pair
    ]
  ]
    where
      early_pair : LeftAfter flash (data_steps row.offset new) left
          → LeavesPair layout aim old new left
      early_pair early =
          pair_same layout (images_in held layout left) es (entries_in layout left)
          aim.next.sector aim.running old aim.slot new two (data_entries left early)
          (start_pair layout hs (images_in held layout left) es aim.running old aim.next.sector
          aim.slot aim.next.entry new settled heralds opening.begins.apart (data_old left early))

  -- some application boots, chance or not
  pub left_some : ShowsNone → (left : List ℕ) → LeftAfter flash (driver_steps layout aim new) left
      → boots_in held layout left ≢ None
  left_some shown left after = elim (within shown left after) [
    | inl early ↦ λ none. let one = left_data left early in cc
    | inr later ↦ still left later.1
  ]
    where
      still : (left : List ℕ) → LeftAfter mid (rewrite layout.otadata (next_rewrite aim)) left
          → boots_in held layout left ≢ None
      still left later =
          subst (λ images. boots layout images (entries_in layout left) ≢ None)
          (sym (behind_old left later))
          (still_boots layout (images_in held layout mid) (entries_in layout mid)
          (entries_in layout left) (images_are_placed held layout mid)
          (λ none. let one = left_data mid (left_end flash (data_steps row.offset new)) in cc))

  -- the table stays
  pub left_layout : ShowsNone → (left : List ℕ) → LeftAfter flash (driver_steps layout aim new) left
      → layout_in left ≡ layout_in flash
  left_layout shown left after = elim (within shown left after) [
    | inl early ↦ early_layout left early
    | inr later ↦
        same_layout (IsBeside layout.otadata (layout.otadata + 8192)) mid left below_otadata
        (left_agrees layout.otadata (layout.otadata + 8192) mid
        (rewrite layout.otadata (next_rewrite aim)) left
        (rewrites_within layout.otadata (next_rewrite aim ∷ []) opening.placed.aligned
        ((two, omega (arith, opening.stored.sized.label)), tt)) later.1)
        ∙ early_layout mid (left_end flash (data_steps row.offset new))
  ]
    where
      below_row : Covers (IsBeside row.offset (row.offset + row.size)) 0x8000 0xC00
      below_row i from to =
          let behind = row_behind (length flash) row
          (opening.placed.stands (Ota aim.slot) row row_is) in inl (omega arith)

      below_otadata : Covers (IsBeside layout.otadata (layout.otadata + 8192)) 0x8000 0xC00
      below_otadata i from to = inl (omega (arith, opening.placed.behind))

      early_layout : (left : List ℕ) → LeftAfter flash (data_steps row.offset new) left
          → layout_in left ≡ layout_in flash
      early_layout left early =
          same_layout (IsBeside row.offset (row.offset + row.size)) flash left below_row
          (left_beside layout flash left new (Ota aim.slot) row opening.placed row_is fits early)

  -- ---- behind all of the steps

  -- the new application boots
  pub all_boot : ShowsNone → Whole new opening.begins.row.size
      → boots_in held layout (after_steps flash (driver_steps layout aim new))
      ≡ Some (Ota aim.slot, new)
  all_boot shown whole =
      ap (λ steps. boots_in held layout (after_steps flash steps))
      (driver_is layout aim new row opening.begins.row_is
      ∙ image_whole shown layout.otadata row (next_rewrite aim) new whole)
      ∙ ap (boots_in held layout)
      (after_steps_append flash (data_steps row.offset new) (rewrite layout.otadata
      (next_rewrite aim)))
      ∙ new_boots layout hs (images_in held layout end_flash) es (entries_in layout end_flash)
      aim.running old aim.next.sector aim.slot aim.next.entry new settled heralds
      (ap (λ images. images (Ota aim.slot)) (behind_old end_flash ends) ∙ mid_new whole)
      (rewritten_entry layout mid (next_rewrite aim) opening.placed.aligned
      (omega (arith, opening.placed.inside, size, two)) opening.stored)
      (behind_other end_flash ends)
    where
      end_flash : List ℕ
      end_flash = after_steps mid (rewrite layout.otadata (next_rewrite aim))

      ends : LeftAfter mid (rewrite layout.otadata (next_rewrite aim)) end_flash
      ends = left_end mid (rewrite layout.otadata (next_rewrite aim))

-- ---- the laws, by the partition of the slot

module _ (shown : ShowsNone) (layout : Places) (flash left : List ℕ) (aim : Aim)
    (old new : List ℕ) (row : Row) (opening : IsOpening layout flash aim old new)
    (is : slice_get layout.slots aim.slot ≡ Some row) where
  same : opening.begins.row ≡ row
  same = let first = opening.begins.row_is in cc

  pub session_before : LeftAfter flash (data_steps row.offset new) left
      → boots_in held layout left ≡ Some (aim.running, old)
  session_before after = left_data layout flash aim old new opening left
      (subst (λ (r : Row). LeftAfter flash (data_steps r.offset new) left) (sym same) after)

  pub session_boots : LeftAfter flash (driver_steps layout aim new) left
      → BootsOldOrNew layout flash aim row.size old new left
  session_boots after =
      subst (λ (r : Row). BootsOldOrNew layout flash aim r.size old new left) same
      (left_boots layout flash aim old new opening shown left after)

  pub session_done : Whole new row.size
      → boots_in held layout (after_steps flash (driver_steps layout aim new))
      ≡ Some (Ota aim.slot, new)
  session_done whole = all_boot layout flash aim old new opening shown
      (subst (λ (r : Row). Whole new r.size) (sym same) whole)

-- the next entry goes to one of the two sectors
pub sector_two : (layout : Places) (flash : List ℕ) (aim : Aim) (old new : List ℕ)
    → IsOpening layout flash aim old new → aim.next.sector < 2
sector_two layout flash aim old new opening = two layout flash aim old new opening

-- the steps of a whole image
pub session_steps : ShowsNone → (layout : Places) (aim : Aim) (image : List ℕ) (row : Row)
    → slice_get layout.slots aim.slot ≡ Some row → Whole image row.size
    → driver_steps layout aim image
    ≡ data_steps row.offset image ++ rewrite layout.otadata (next_rewrite aim)
session_steps shown layout aim image row is whole =
    driver_is layout aim image row is
    ∙ image_whole shown layout.otadata row (next_rewrite aim) image whole
