-- What a core reads of the flash, by the driver's share.
use Rattle.std.proofs.Common.{◌≡◌, ◌⊎◌, inl, inr, ◌==◌, Bool, true, false, ℕ, zero, suc, ◌+◌, ◌*◌, ◌/◌, ◌%◌, ◌<◌, ◌≤◌, List, [], ◌∷◌, ◌++◌, length, take, drop, slice_index, Option, Some, None, refl, sym, ap, ◌∙◌, subst, arith, append_assoc, append-nil}
use Rattle.std.specs.Prelude.{if◌then◌else◌, slice_get}
use Rattle.std.proofs.lemmas.List.{get_or-drop, get_or-take}
use Rattle.core_state.specs.Sharing.{in_order}
use Rattle.nor_device.specs.declared.step.Step.{Step}
use Rattle.nor_device.specs.declared.nor.StepEnd.{StepEnd}
use Rattle.nor_device.specs.declared.nor.NorFault.{NorFault}
use Rattle.nor_device.specs.Flash.{after_steps, end_of, start_of}
use Rattle.crash_images.specs.Agrees.{IsBeside}
use Rattle.partition_table.specs.declared.app.App.TheVariants.{Ota}
use Rattle.partition_table.specs.declared.row.Row.{Row}
use Rattle.partition_table.specs.Layout.{Apart, Places}
use Rattle.image_verify.specs.declared.bad.BadImage.{BadImage}
use Rattle.image_verify.specs.Bad.{bad}
use Rattle.boot_run.specs.declared.aims.Aim.{Aim}
use Rattle.boot_run.proofs.FrameLemmas.{stands_inside}
use Rattle.boot_run.specs.Rewriting.{rewrite}
use Rattle.flash_steps.specs.Parts.{open_addresses}
use Rattle.flash_steps.specs.Steps.{write_steps}
use Rattle.bus_hub.specs.declared.did.Base.{Base}
use Rattle.bus_hub.specs.declared.did.Did.{Did}
use Rattle.bus_hub.specs.Hub.{Hub, Stands, begun, state_of}
use Rattle.bus_hub.specs.Log.{State}
use Rattle.bus_hub.specs.Shares.{made}
use Rattle.bus_hub.proofs.Facts.{part_now}
use Rattle.bus_hub.proofs.Goodness.{IsGoodState, item_good}
use Rattle.bus_hub.proofs.Logs.{kept}
use Rattle.update_steps.specs.Beside.{StandsBeside, TornByNext}
use Rattle.update_steps.specs.Driver.{data_steps, driver_steps, image_steps, next_rewrite, sealed_steps, slot_erases}
use Rattle.update_steps.specs.Session.{IsOpening}
use Rattle.update_steps.proofs.DataLemmas.{aligned_row, data_begins}
use Rattle.update_steps.proofs.SessionLemmas.{driver_is, sector_two}
use Rattle.ota_session.specs.GoodLaws.{apart}
use Rattle.ota_session.specs.Course.{Course, Grants, Install, Installs, IsFor, Purpose, steps_for, IsGood, course_after, part_after, part_of}
use Rattle.ota_session.specs.DutyLaws.{made_good, other_stays, own_moves, torn_good}
use Rattle.ota_session.proofs.PartLemmas.{driver_now, part_tells}

module _ {D S : Type 0}
    (bytes : D → Option (List ℕ)) (off : D → Bool) (steps faults : D → ℕ) (setting : D → S)
    (may_end : S → ℕ → StepEnd → Type 0) (may_tear : S → ℕ → List ℕ → Step → List ℕ → Type 0)
    (may_refuse : S → ℕ → NorFault → Type 0) (must_refuse : S → ℕ → Type 0) where
  abbrev pub StandsBy : Hub D Course → Base S Course → List Did → List Did → Type 0
  StandsBy = Stands bytes off steps faults setting may_end may_tear may_refuse must_refuse
      part_of Grants course_after IsGood

  -- the flash of a bus is good by its duty
  pub stands_good : (h : Hub D Course) (b : Base S Course) (left right : List Did)
      (s : StandsBy h b left right) → IsGood b.flash h.duty s.flash
  stands_good h b left right s =
      let there : IsGoodState may_end may_tear may_refuse must_refuse part_of Grants course_after
      IsGood torn_good made_good b.flash (state_of h s.flash (steps h.dev) s.noted s.is_off) =
      subst (λ (state : State Course). IsGoodState may_end may_tear may_refuse must_refuse part_of
      Grants course_after IsGood torn_good made_good b.flash state) s.stood.leads
      (kept may_end may_tear may_refuse must_refuse part_of Grants course_after b.setting
      (λ state. IsGoodState may_end may_tear may_refuse must_refuse part_of Grants course_after
      IsGood torn_good made_good b.flash state)
      (λ state c did small rule is. item_good may_end may_tear may_refuse must_refuse part_of
      Grants course_after IsGood torn_good made_good b.flash b.setting state c did small rule is)
      (begun b) s.stood.log s.stood.ruled (record {
        flash_good = s.good_first;
        granted = tt;
      })) in
      there.flash_good

  -- the tables of two good flashes of one flash at the opening are one
  same_rows : (b : Base S Course) (duty : Course) (flash first : List ℕ)
      → IsGood b.flash b.duty first → IsGood b.flash duty flash → duty.rows ≡ b.duty.rows
  same_rows b duty flash first one two =
      let both = sym two.made_for.table ∙ one.made_for.table in cc

  beside_of : (h : Hub D Course) (b : Base S Course) (left right : List Did)
      (before rest : List Step) (flash : List ℕ) (s : StandsBy h b left right)
      → (h.duty.made ≡ before) × (h.duty.rest ≡ rest) → bytes h.dev ≡ Some flash
      → StandsBeside b.flash before rest (open_addresses b.duty.rows) flash
  beside_of h b left right before rest flash s parts told =
      let good = stands_good h b left right s in
      let same : s.flash ≡ flash = let both = sym s.told ∙ told in cc in
      subst (λ (f : List ℕ). StandsBeside b.flash before rest (open_addresses b.duty.rows) f) same
      (subst (λ (rows : List Row). StandsBeside b.flash before rest (open_addresses rows) s.flash)
      (same_rows b h.duty s.flash b.flash s.good_first good)
      (subst (λ (l : List Step). StandsBeside b.flash l rest (open_addresses h.duty.rows) s.flash)
      parts.0
      (subst (λ (l : List Step). StandsBeside b.flash h.duty.made l (open_addresses h.duty.rows)
      s.flash) parts.1 good.stands)))

  -- the driver knows by its share what is made and what is to come
  knows : (h : Hub D Course) (b : Base S Course) (c : ℕ) (mine theirs : List Did)
      (done rest : List Step) → c < 2 → in_order (StandsBy h b) c mine theirs
      → c ≡ b.duty.driver → b.duty.rest ≡ done ++ rest → made mine ≡ done
      → (h.duty.made ≡ b.duty.made ++ done) × (h.duty.rest ≡ rest)
  knows h b c mine theirs done rest small stands is split did =
      part_tells h.duty c (b.duty.made ++ done) rest
      ((part_now bytes off steps faults setting may_end may_tear may_refuse must_refuse part_of
      Grants part_after course_after IsGood own_moves other_stays h b c mine theirs small stands).0
      ∙ driver_now b c mine done rest is split did)

  -- beside the other core, the flash of a bus is the one at the opening after the driver's steps,
  -- by its share
  pub stands_beside : (h : Hub D Course) (b : Base S Course) (c : ℕ) (mine theirs : List Did)
      (done rest : List Step) (flash : List ℕ) → c < 2 → in_order (StandsBy h b) c mine theirs
      → c ≡ b.duty.driver → b.duty.rest ≡ done ++ rest → made mine ≡ done
      → bytes h.dev ≡ Some flash
      → StandsBeside b.flash (b.duty.made ++ done) rest (open_addresses b.duty.rows) flash
  stands_beside h b zero mine theirs done rest flash small stands is split did told =
      beside_of h b mine theirs (b.duty.made ++ done) rest flash stands
      (knows h b 0 mine theirs done rest small stands is split did) told
  stands_beside h b (suc zero) mine theirs done rest flash small stands is split did told =
      beside_of h b theirs mine (b.duty.made ++ done) rest flash stands
      (knows h b 1 mine theirs done rest small stands is split did) told
  stands_beside h b (suc (suc c)) mine theirs done rest flash small stands is split did told =
      absurd (omega arith)

-- the first of the steps to come leaves an address as it is
abbrev pub NextSpares : List Step → ℕ → Type 0
NextSpares [] i = Unit {0}
NextSpares (step ∷ steps) i = IsBeside (start_of step) (end_of step) i

-- there the flash has the byte that the steps made leave
pub beside_byte : (first : List ℕ) (before rest : List Step) (others : ℕ → Bool) (flash : List ℕ)
    (i : ℕ) → StandsBeside first before rest others flash → i < length flash → others i ≡ false
    → NextSpares rest i → slice_index flash i ≡ slice_index (after_steps first before) i
beside_byte first before rest others flash i stands inside own spares =
    by rest spares (stands.byte i (omega (arith, inside, stands.same_length)) own)
  where
    by : (next : List Step) → NextSpares next i
        → TornByNext next i (slice_index (after_steps first before) i) (slice_index flash i)
        → slice_index flash i ≡ slice_index (after_steps first before) i
    by [] spares torn = torn
    by (step ∷ steps) spares torn = torn.outside spares

-- ---- the slot of an update

module _ {A : Type 0} where
  same_back : (front one two : List A) → front ++ one ≡ front ++ two → one ≡ two
  same_back [] one two is = is
  same_back (x ∷ front) one two is = same_back front one two cc

  no_front : (front back : List A) → [] ≡ front ++ back → back ≡ []
  no_front [] back is = sym is
  no_front (x ∷ front) back is = absurd cc

-- a sector of the OTA data lies beside a partition that is apart from them
sector_beside : (otadata sector offset size i : ℕ) → otadata % 0x1000 ≡ 0 → sector < 2
    → Apart offset size otadata 0x2000 → offset ≤ i → i < offset + size
    → IsBeside ((otadata / 4096 + sector) * 4096) ((otadata / 4096 + sector) * 4096 + 4096) i
sector_beside otadata sector offset size i aligned two (inl below) from to = inl (omega arith)
sector_beside otadata sector offset size i aligned two (inr above) from to = inr (omega arith)

module _ (first : List ℕ) (layout : Places) (aim : Aim) (old image : List ℕ)
    (opens : IsOpening layout first aim old image) (row : Row)
    (is : slice_get layout.slots aim.slot ≡ Some row) where
  fits : length image ≤ row.size
  fits =
      let both = sym opens.begins.row_is ∙ is in
      let same : opens.begins.row ≡ row = cc in
      let sizes : opens.begins.row.size ≡ row.size = ap (λ (r : Row). r.size) same in
      omega (arith, opens.begins.fits, opens.length_is, sizes)

  -- behind the data nothing is to come, or the entry
  pub behind_data : (rest : List Step)
      → driver_steps layout aim image ≡ data_steps row.offset image ++ rest
      → (rest ≡ []) ⊎ (rest ≡ rewrite layout.otadata (next_rewrite aim))
  behind_data rest split = by image refl (sym (driver_is layout aim image row is) ∙ split)
    where
      entry : List Step
      entry = rewrite layout.otadata (next_rewrite aim)

      at : (erases writes : List Step) (mark : Bool) (found : Option BadImage)
          → (if mark then sealed_steps found (erases ++ writes) entry else erases)
          ≡ (erases ++ writes) ++ rest
          → (rest ≡ []) ⊎ (rest ≡ entry)
      at erases writes true None e = inr (sym (same_back (erases ++ writes) entry rest e))
      at erases writes true (Some why) e =
          inl (sym (same_back (erases ++ writes) [] rest (append-nil (erases ++ writes) ∙ e)))
      at erases writes false found e =
          inl (no_front writes rest (same_back erases [] (writes ++ rest)
          (append-nil erases ∙ e ∙ append_assoc erases writes rest)))

      by : (bytes : List ℕ) → image ≡ bytes
          → image_steps layout.otadata row (next_rewrite aim) image
          ≡ data_steps row.offset image ++ rest
          → (rest ≡ []) ⊎ (rest ≡ entry)
      by [] none e = inl (no_front (data_steps row.offset []) rest
          (subst (λ (l : List ℕ). image_steps layout.otadata row (next_rewrite aim) l
          ≡ data_steps row.offset l ++ rest) none e))
      by (byte ∷ bytes) some e =
          at (slot_erases row.offset (byte ∷ bytes)) (write_steps row.offset (byte ∷ bytes))
          (byte == 0xE9) (bad row.size (byte ∷ bytes))
          (subst (λ (l : List ℕ). image_steps layout.otadata row (next_rewrite aim) l
          ≡ data_steps row.offset l ++ rest) some e)

  -- so the slot is spared
  pub slot_spared : (rest : List Step)
      → driver_steps layout aim image ≡ data_steps row.offset image ++ rest
      → (i : ℕ) → row.offset ≤ i → i < row.offset + row.size → NextSpares rest i
  slot_spared rest split i from to = elim (behind_data rest split) [
    | inl none ↦ subst (λ (l : List Step). NextSpares l i) (sym none) tt
    | inr entry ↦ subst (λ (l : List Step). NextSpares l i) (sym entry)
        (sector_beside layout.otadata aim.next.sector row.offset row.size i opens.placed.aligned
        (sector_two layout first aim old image opens)
        (opens.placed.app_apart (Ota aim.slot) row is) from to)
  ]

  -- the data leave the image in the slot
  pub data_byte : (i : ℕ) → i < length image
      → slice_index (after_steps first (data_steps row.offset image)) (row.offset + i)
      ≡ slice_index image i
  data_byte i inside =
      let stands = opens.placed.stands (Ota aim.slot) row is in
      let sectors = aligned_row (length first) row stands in
      let left = after_steps first (data_steps row.offset image) in
      let part = drop row.offset left in
      sym (get_or-take (length image) (take row.size part) i 0 inside
      ∙ get_or-take row.size part i 0 (omega (arith, inside, fits))
      ∙ get_or-drop row.offset left i 0)
      ∙ ap (λ (l : List ℕ). slice_index l i)
      (data_begins row image first sectors.0 sectors.1 fits
      (stands_inside (length first) row stands) opens.bytes)

-- ---- what is read back of it

module _ {D S : Type 0}
    (bytes : D → Option (List ℕ)) (off : D → Bool) (steps faults : D → ℕ) (setting : D → S)
    (may_end : S → ℕ → StepEnd → Type 0) (may_tear : S → ℕ → List ℕ → Step → List ℕ → Type 0)
    (may_refuse : S → ℕ → NorFault → Type 0) (must_refuse : S → ℕ → Type 0) where
  abbrev Stood : Hub D Course → Base S Course → List Did → List Did → Type 0
  Stood = StandsBy bytes off steps faults setting may_end may_tear may_refuse must_refuse

  -- the flash at the opening of a bus is good by its duty
  pub first_good : (h : Hub D Course) (b : Base S Course) (c : ℕ) (mine theirs : List Did) → c < 2
      → in_order (Stood h b) c mine theirs → IsGood b.flash b.duty b.flash
  first_good h b zero mine theirs small stands = stands.good_first
  first_good h b (suc zero) mine theirs small stands = stands.good_first
  first_good h b (suc (suc c)) mine theirs small stands = absurd (omega arith)

  -- once the driver's share has made the data, the slot has the image: each byte of a bus that
  -- stands for the base and this share, whatever the other core did, is the image's
  pub slot_byte : (h : Hub D Course) (b : Base S Course) (c : ℕ) (mine theirs : List Did)
      (aim : Aim) (image : List ℕ) (row : Row) (rest : List Step) (flash : List ℕ) → c < 2
      → in_order (Stood h b) c mine theirs → c ≡ b.duty.driver → b.duty.made ≡ []
      → b.duty.purpose ≡ Install aim image → slice_get b.duty.layout.slots aim.slot ≡ Some row
      → b.duty.rest ≡ data_steps row.offset image ++ rest
      → made mine ≡ data_steps row.offset image → bytes h.dev ≡ Some flash
      → (i : ℕ) → i < length image → slice_index flash (row.offset + i) ≡ slice_index image i
  slot_byte h b c mine theirs aim image row rest flash small stands own none for is split did told
      i inside =
      let written = data_steps row.offset image in
      let layout = b.duty.layout in
      let good = first_good h b c mine theirs small stands in
      let installs : Installs layout b.flash aim image =
      subst (λ (p : Purpose). IsFor layout b.flash p) for good.made_for.purpose in
      let all : driver_steps layout aim image ≡ written ++ rest =
      ap (steps_for layout) (sym for) ∙ good.made_for.steps
      ∙ ap (λ (l : List Step). l ++ b.duty.rest) none ∙ split in
      let beside : StandsBeside b.flash written rest (open_addresses b.duty.rows) flash =
      subst (λ (l : List Step). StandsBeside b.flash (l ++ written) rest (open_addresses b.duty.rows)
      flash) none
      (stands_beside bytes off steps faults setting may_end may_tear may_refuse must_refuse h b c
      mine theirs written rest flash small stands own split did told) in
      let opens = installs.opens in
      let row_fits = fits b.flash layout aim installs.old image opens row is in
      let within = stands_inside (length b.flash) row
      (opens.placed.stands (Ota aim.slot) row is) in
      let spared : open_addresses b.duty.rows (row.offset + i) ≡ false =
      (apart b.flash b.duty good.made_for).apps (Ota aim.slot) row is (row.offset + i)
      (omega arith) (omega (arith, inside, row_fits)) in
      beside_byte b.flash written rest (open_addresses b.duty.rows) flash (row.offset + i) beside
      (omega (arith, inside, row_fits, within, beside.same_length)) spared
      (slot_spared b.flash layout aim installs.old image opens row is rest all (row.offset + i)
      (omega arith) (omega (arith, inside, row_fits)))
      ∙ data_byte b.flash layout aim installs.old image opens row is i inside
