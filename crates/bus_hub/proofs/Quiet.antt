-- Calls that touch no device.
use Rattle.std.specs.Prelude.{◌≡◌, ℕ, zero, suc, ◌<◌, Bool, List, [], ◌∷◌, refl, Option, None, Result}
use Rattle.std.proofs.Common.{◌∙◌, sym, ap, subst}
use Rattle.core_state.specs.declared.registers.Record.{Record}
use Rattle.core_state.specs.declared.registers.Regs.{Regs}
use Rattle.core_state.specs.Sharing.{GoesOn}
use Rattle.nor_device.specs.declared.step.Step.{Step}
use Rattle.nor_device.specs.declared.nor.StepEnd.{StepEnd}
use Rattle.nor_device.specs.declared.nor.NorFault.{NorFault}
use Rattle.bus_hub.specs.declared.entry.Act.{Act}
use Rattle.bus_hub.specs.declared.did.Did.{Did}
use Rattle.bus_hub.specs.declared.did.Did.TheVariants.{Noted, Mapping, Unmapping}
use Rattle.bus_hub.specs.declared.entry.Act.TheVariants.{Open, Close, Fetch, Set, Mapped, Unmapped, Wrote, Refused}
use Rattle.bus_hub.specs.Log.{IsPlain, IsNote}
use Rattle.image_layout.specs.declared.space.Space.{Space}
use Rattle.mmu_map.specs.declared.runs.NoPages.{NoPages}
use Rattle.mmu_map.specs.declared.runs.NotMapped.{NotMapped}
use Rattle.mmu_map.specs.Map.{IsMapAnswer, after_map, IsUnmapAnswer, after_unmap}
use Rattle.bus_hub.specs.declared.did.Base.{Base}
use Rattle.bus_hub.specs.Hub.{Hub, Fits, Stands, with_record, noted}
use Rattle.bus_hub.proofs.Adds.{adds, still}

-- a note is no act of a step and no fetch
note_plain : (act : Act) → IsNote act → IsPlain act
note_plain (Open erase at len) note = absurd note
note_plain (Close end) note = absurd note
note_plain (Fetch at start len) note = absurd note
note_plain Set note = absurd note
note_plain (Mapped at) note = tt
note_plain (Unmapped at) note = tt
note_plain Wrote note = tt
note_plain (Refused why) note = tt

module _ {D S K P : Type 0}
    (bytes : D → Option (List ℕ)) (off : D → Bool) (steps faults : D → ℕ) (setting : D → S)
    (may_end : S → ℕ → StepEnd → Type 0) (may_tear : S → ℕ → List ℕ → Step → List ℕ → Type 0)
    (may_refuse : S → ℕ → NorFault → Type 0) (must_refuse : S → ℕ → Type 0)
    (part : K → ℕ → P) (grants : P → Step → Type 0) (after : K → ℕ → Step → K)
    (good : List ℕ → K → List ℕ → Type 0) where
  abbrev pub StandsBy : Hub D K → Base S K → List Did → List Did → Type 0
  StandsBy = Stands bytes off steps faults setting may_end may_tear may_refuse must_refuse
      part grants after good

  -- one more entry, with other registers of a core or not
  plain_entry : (old : Hub D K) (c k : ℕ) (regs : Regs) (act : Act) (left right : Record) → c < 2
      → old.running ≡ None → IsPlain act
      → GoesOn StandsBy Fits old
      (record (noted old c k regs act) { left = left; right = right }) c (Noted k regs act ∷ [])
  plain_entry old c k regs act left right small idle plain =
      adds bytes off steps faults setting may_end may_tear may_refuse must_refuse
      part grants after good
      old (record (noted old c k regs act) { left = left; right = right }) c (Noted k regs act)
      small
      (λ flash count is_off told counted power. record {
        rule = (idle, plain);
        flash_after = flash;
        told = told;
        noted_after = count;
        counted = counted;
        is_off_after = is_off;
        power = power;
        setting_same = refl;
        left_room = refl;
        right_room = refl;
        leads = refl;
      })

  -- a core notes an act
  pub notes : (old new : Hub D K) (c k : ℕ) (regs : Regs) (act : Act) → c < 2
      → old.running ≡ None → IsNote act → new ≡ noted old c k regs act
      → GoesOn StandsBy Fits old new c (Noted k regs act ∷ [])
  notes old new c k regs act small idle plain is =
      subst (λ (h : Hub D K). GoesOn StandsBy Fits old h c (Noted k regs act ∷ [])) (sym is)
      (plain_entry old c k regs act old.left old.right small idle (note_plain act plain))

  -- a core sets its registers
  set_by : (old : Hub D K) (c k : ℕ) (regs : Regs) (r : Record) → c < 2 → old.running ≡ None
      → GoesOn StandsBy Fits old (with_record (noted old c k regs Set) c r) c (Noted k regs Set ∷
      [])
  set_by old zero k regs r small idle =
      plain_entry old 0 k regs Set r old.right small idle tt
  set_by old (suc c) k regs r small idle =
      plain_entry old (suc c) k regs Set old.left r small idle tt

  pub sets : (old mid new : Hub D K) (c k : ℕ) (regs : Regs) (r : Record) → c < 2
      → old.running ≡ None → mid ≡ noted old c k regs Set → new ≡ with_record mid c r
      → GoesOn StandsBy Fits old new c (Noted k regs Set ∷ [])
  sets old mid new c k regs r small idle first is =
      let e : new ≡ with_record (noted old c k regs Set) c r =
      is ∙ ap (λ (h : Hub D K). with_record h c r) first in
      subst (λ (h : Hub D K). GoesOn StandsBy Fits old h c (Noted k regs Set ∷ [])) (sym e)
      (set_by old c k regs r small idle)

  -- other registers of a core add nothing
  record_by : (old : Hub D K) (c o : ℕ) (r : Record)
      → GoesOn StandsBy Fits old (with_record old o r) c []
  record_by old c zero r =
      still bytes off steps faults setting may_end may_tear may_refuse must_refuse
      part grants after good
      old (with_record old 0 r) c (λ flash count is_off told counted power. record {
        told = told;
        counted = counted;
        power = power;
        setting_same = refl;
        left_room = refl;
        right_room = refl;
        leads = refl;
      })
  record_by old c (suc o) r =
      still bytes off steps faults setting may_end may_tear may_refuse must_refuse
      part grants after good
      old (with_record old (suc o) r) c (λ flash count is_off told counted power. record {
        told = told;
        counted = counted;
        power = power;
        setting_same = refl;
        left_room = refl;
        right_room = refl;
        leads = refl;
      })

  pub registers_stay : (old new : Hub D K) (c : ℕ) (r : Record) → new ≡ with_record old c r
      → GoesOn StandsBy Fits old new c []
  registers_stay old new c r is =
      subst (λ (h : Hub D K). GoesOn StandsBy Fits old h c []) (sym is) (record_by old c c r)

  -- pages were asked for, and a run was to be freed
  pub maps : (old new : Hub D K) (c flash_page n : ℕ) (space : Space) (answer : Result ℕ NoPages)
      → c < 2 → old.running ≡ None → IsMapAnswer old.map n space answer
      → new ≡ record old { map = after_map old.map flash_page n answer }
      → GoesOn StandsBy Fits old new c (Mapping flash_page n space answer ∷ [])
  maps old new c flash_page n space answer small idle answered is =
      subst (λ (h : Hub D K). GoesOn StandsBy Fits old h c (Mapping flash_page n space answer ∷ []))
      (sym is)
      (adds bytes off steps faults setting may_end may_tear may_refuse must_refuse
      part grants after good
      old (record old { map = after_map old.map flash_page n answer }) c
      (Mapping flash_page n space answer) small (λ flash count is_off told counted power. record {
        rule = (idle, answered);
        flash_after = flash;
        told = told;
        noted_after = count;
        counted = counted;
        is_off_after = is_off;
        power = power;
        setting_same = refl;
        left_room = refl;
        right_room = refl;
        leads = refl;
      }))

  pub unmaps : (old new : Hub D K) (c at : ℕ) (answer : Result (Unit {0}) NotMapped) → c < 2
      → old.running ≡ None → IsUnmapAnswer old.map at answer
      → new ≡ record old { map = after_unmap old.map at answer }
      → GoesOn StandsBy Fits old new c (Unmapping at answer ∷ [])
  unmaps old new c at answer small idle answered is =
      subst (λ (h : Hub D K). GoesOn StandsBy Fits old h c (Unmapping at answer ∷ [])) (sym is)
      (adds bytes off steps faults setting may_end may_tear may_refuse must_refuse
      part grants after good
      old (record old { map = after_unmap old.map at answer }) c (Unmapping at answer) small
      (λ flash count is_off told counted power. record {
        rule = (idle, answered);
        flash_after = flash;
        told = told;
        noted_after = count;
        counted = counted;
        is_off_after = is_off;
        power = power;
        setting_same = refl;
        left_room = refl;
        right_room = refl;
        leads = refl;
      }))
