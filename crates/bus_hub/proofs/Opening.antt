-- A bus that was just made stands for its base and no shares.
use Rattle.std.specs.Prelude.{◌≡◌, ℕ, Bool, true, false, List, [], refl, Option, Some}
use Rattle.std.proofs.Common.{◌∙◌, sym, ap, subst, arith}
use Rattle.core_state.specs.declared.registers.Record.{Record}
use Rattle.nor_device.specs.declared.step.Step.{Step}
use Rattle.nor_device.specs.declared.nor.StepEnd.{StepEnd}
use Rattle.nor_device.specs.declared.nor.NorFault.{NorFault}
use Rattle.mmu_map.specs.Map.{Map, IsWhole}
use Rattle.bus_hub.specs.declared.did.Did.{Did}
use Rattle.bus_hub.specs.declared.did.Base.{Base}
use Rattle.bus_hub.specs.Room.{Kept, empty_journal}
use Rattle.bus_hub.specs.Hub.{Hub, Stands, IsBaseOf, PowerIs, begun, state_of, opened}

-- at the start the power is as the base says
power_first : (off is_off : Bool) (stops : Type 0) → is_off ≡ off → PowerIs off is_off stops
power_first off is_off stops is = record {
  went_off = λ gone. is ∙ gone;
  came_back = λ gone on. absurd (clash gone on);
} where
  clash : is_off ≡ true → off ≡ false → ⊥
  clash gone on = cc

module _ {D S K P : Type 0}
    (bytes : D → Option (List ℕ)) (off : D → Bool) (steps faults : D → ℕ) (setting : D → S)
    (may_end : S → ℕ → StepEnd → Type 0) (may_tear : S → ℕ → List ℕ → Step → List ℕ → Type 0)
    (may_refuse : S → ℕ → NorFault → Type 0) (must_refuse : S → ℕ → Type 0)
    (part : K → ℕ → P) (grants : P → Step → Type 0) (after : K → ℕ → Step → K)
    (good : List ℕ → K → List ℕ → Type 0) where
  abbrev pub StandsBy : Hub D K → Base S K → List Did → List Did → Type 0
  StandsBy = Stands bytes off steps faults setting may_end may_tear may_refuse must_refuse
      part grants after good

  -- the first state is that of the bus
  first_state : (b : Base S K) (dev : D) (map : Map) (journal : Kept) (duty : K)
      → IsBaseOf bytes off steps faults setting b dev map journal duty
      → journal ≡ empty_journal journal.left_room journal.right_room
      → (left right : Record)
      → begun b ≡ state_of (record (opened dev map journal duty) { left = left; right = right })
      b.flash (steps dev) b.faults b.off
  first_state b dev map journal duty is empty left right =
      let e1 : journal.entries ≡ [] = ap (λ (j : Kept). j.entries) empty in
      let e2 : journal.bytes ≡ [] = ap (λ (j : Kept). j.bytes) empty in
      let m = is.map_is in
      let k = is.duty_is in
      let n = is.steps_are in
      cc

  pub opens : (b : Base S K) (dev : D) (map : Map) (journal : Kept) (duty : K)
      (left right : Record)
      → IsBaseOf bytes off steps faults setting b dev map journal duty
      → journal ≡ empty_journal journal.left_room journal.right_room
      → ((flash : List ℕ) → bytes dev ≡ Some flash → good flash duty flash) → IsWhole map
      → StandsBy (record (opened dev map journal duty) { left = left; right = right }) b [] []
  opens b dev map journal duty left right is empty good_first whole_first =
      record {
        flash = b.flash;
        told = is.flash_is;
        noted = b.faults;
        counted = omega (arith, is.faults_are);
        is_off = b.off;
        power = power_first (off dev) b.off (must_refuse b.setting (steps dev)) is.off_is;
        setting_is = sym is.setting_is;
        left_room = sym is.left_is;
        right_room = sym is.right_is;
        left_fits = record { entries_fit = omega arith; bytes_fit = omega arith };
        right_fits = record { entries_fit = omega arith; bytes_fit = omega arith };
        good_first = subst (λ (k : K). good b.flash k b.flash) (sym is.duty_is)
            (good_first b.flash is.flash_is);
        whole_first = subst IsWhole (sym is.map_is) whole_first;
        stood = record {
          log = [];
          left_is = refl;
          right_is = refl;
          ruled = tt;
          leads = first_state b dev map journal duty is empty left right;
        };
      }
