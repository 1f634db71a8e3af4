-- One more item at the end of the log, and none.
use Rattle.std.specs.Prelude.{◌≡◌, ◌==◌, ℕ, zero, suc, ◌<◌, ◌≤◌, Bool, cond, List, [], ◌∷◌, ◌++◌, Option, Some}
use Rattle.std.proofs.Common.{◌∙◌, sym, ap, subst, arith, append-nil}
use Rattle.core_state.specs.Sharing.{GoesOn}
use Rattle.nor_device.specs.declared.step.Step.{Step}
use Rattle.nor_device.specs.declared.nor.StepEnd.{StepEnd}
use Rattle.nor_device.specs.declared.nor.NorFault.{NorFault}
use Rattle.bus_hub.specs.declared.did.Did.{Did}
use Rattle.bus_hub.specs.declared.did.Base.{Base}
use Rattle.bus_hub.specs.Log.{item, of_core, State, change, reached, Rule}
use Rattle.bus_hub.specs.Hub.{Hub, state_of, begun, Fits, PowerIs, Stands}
use Rattle.bus_hub.proofs.Logs.{of_core-append, reached-append, ruled-append, Keeps}

module _ {D S K P : Type 0}
    (bytes : D → Option (List ℕ)) (off : D → Bool) (steps faults : D → ℕ) (setting : D → S)
    (may_end : S → ℕ → StepEnd → Type 0) (may_tear : S → ℕ → List ℕ → Step → List ℕ → Type 0)
    (may_refuse : S → ℕ → NorFault → Type 0) (must_refuse : S → ℕ → Type 0)
    (part : K → ℕ → P) (grants : P → Step → Type 0) (after : K → ℕ → Step → K)
    (good : List ℕ → K → List ℕ → Type 0) where
  abbrev pub Stand : Hub D K → Base S K → List Did → List Did → Type 0
  Stand = Stands bytes off steps faults setting may_end may_tear may_refuse must_refuse
      part grants after good

  -- what one item more owes: its rule, and that it leads to the bus after the call
  pub record Moves (old new : Hub D K) (c : ℕ) (did : Did) (flash : List ℕ) (noted : ℕ)
      (is_off : Bool) : Type 0 where
    pub rule : Rule may_end may_tear may_refuse must_refuse part grants after (setting old.dev)
        (state_of old flash (steps old.dev) noted is_off) c did
    pub flash_after : List ℕ
    pub told : bytes new.dev ≡ Some flash_after
    pub noted_after : ℕ
    pub counted : noted_after ≤ faults new.dev
    pub is_off_after : Bool
    pub power : PowerIs (off new.dev) is_off_after (must_refuse (setting old.dev) (steps new.dev))
    pub setting_same : setting new.dev ≡ setting old.dev
    pub left_room : new.journal.left_room ≡ old.journal.left_room
    pub right_room : new.journal.right_room ≡ old.journal.right_room
    pub leads : change after (state_of old flash (steps old.dev) noted is_off) c did
        ≡ state_of new flash_after (steps new.dev) noted_after is_off_after

  -- what no item owes: the bus stands where it stood
  pub record Stays (old new : Hub D K) (flash : List ℕ) (noted : ℕ) (is_off : Bool)
      : Type 0 where
    pub told : bytes new.dev ≡ Some flash
    pub counted : noted ≤ faults new.dev
    pub power : PowerIs (off new.dev) is_off (must_refuse (setting old.dev) (steps new.dev))
    pub setting_same : setting new.dev ≡ setting old.dev
    pub left_room : new.journal.left_room ≡ old.journal.left_room
    pub right_room : new.journal.right_room ≡ old.journal.right_room
    pub leads : state_of old flash (steps old.dev) noted is_off
        ≡ state_of new flash (steps new.dev) noted is_off

  -- wherever the old bus stands
  abbrev pub Wherever : Hub D K → (List ℕ → ℕ → Bool → Type 0) → Type 0
  Wherever old Q = (flash : List ℕ) (noted : ℕ) (is_off : Bool) → bytes old.dev ≡ Some flash
      → noted ≤ faults old.dev
      → PowerIs (off old.dev) is_off (must_refuse (setting old.dev) (steps old.dev))
      → Q flash noted is_off

  module _ (old new : Hub D K) (b : Base S K) (left right : List Did)
      (s : Stand old b left right) where
    -- the power as the old bus has it, by its own setting
    power_here : PowerIs (off old.dev) s.is_off (must_refuse (setting old.dev) (steps old.dev))
    power_here = subst (λ (set : S). PowerIs (off old.dev) s.is_off (must_refuse set (steps
        old.dev)))
        (sym s.setting_is) s.power

    abbrev now : State K
    now = state_of old s.flash (steps old.dev) s.noted s.is_off

    module _ (c : ℕ) (did : Did) (small : c < 2)
        (m : Moves old new c did s.flash s.noted s.is_off) where
      rule_there : Rule may_end may_tear may_refuse must_refuse part grants after b.setting
          (reached after (begun b) s.stood.log) c did
      rule_there =
          subst (λ (state : State K). Rule may_end may_tear may_refuse must_refuse part grants
          after b.setting state c did) (sym s.stood.leads)
          (subst (λ (set : S). Rule may_end may_tear may_refuse must_refuse part grants after set
          now c did) s.setting_is m.rule)

      ruled_more : Keeps may_end may_tear may_refuse must_refuse part grants after b.setting
          (begun b) (s.stood.log ++ item c did ∷ [])
      ruled_more = ruled-append may_end may_tear may_refuse must_refuse part grants after
          b.setting (begun b) s.stood.log (item c did ∷ []) s.stood.ruled (small, rule_there, tt)

      leads_more : reached after (begun b) (s.stood.log ++ item c did ∷ [])
          ≡ state_of new m.flash_after (steps new.dev) m.noted_after m.is_off_after
      leads_more =
          reached-append after (begun b) s.stood.log (item c did ∷ [])
          ∙ ap (λ (state : State K). change after state c did) s.stood.leads ∙ m.leads

      more_of : (o : ℕ) → of_core o (s.stood.log ++ item c did ∷ [])
          ≡ of_core o s.stood.log ++ cond (c == o) (did ∷ []) []
      more_of o = of_core-append o s.stood.log (item c did ∷ [])

      -- the longer log stands for the new bus, for shares that are its
      stands_more : (left' right' : List Did)
          → of_core 0 (s.stood.log ++ item c did ∷ []) ≡ left'
          → of_core 1 (s.stood.log ++ item c did ∷ []) ≡ right'
          → Fits b 0 left' → Fits b 1 right' → Stand new b left' right'
      stands_more left' right' left_is right_is left_fits right_fits = record {
        flash = m.flash_after;
        told = m.told;
        noted = m.noted_after;
        counted = m.counted;
        is_off = m.is_off_after;
        power = subst (λ (set : S). PowerIs (off new.dev) m.is_off_after
            (must_refuse set (steps new.dev))) s.setting_is m.power;
        setting_is = m.setting_same ∙ s.setting_is;
        left_room = m.left_room ∙ s.left_room;
        right_room = m.right_room ∙ s.right_room;
        left_fits = left_fits;
        right_fits = right_fits;
        good_first = s.good_first;
        whole_first = s.whole_first;
        stood = record {
          log = s.stood.log ++ item c did ∷ [];
          left_is = left_is;
          right_is = right_is;
          ruled = ruled_more;
          leads = leads_more;
        };
      }

    -- nothing more stands for the new bus
    stands_still : Stays old new s.flash s.noted s.is_off → Stand new b left right
    stands_still m = record {
      flash = s.flash;
      told = m.told;
      noted = s.noted;
      counted = m.counted;
      is_off = s.is_off;
      power = subst (λ (set : S). PowerIs (off new.dev) s.is_off
          (must_refuse set (steps new.dev))) s.setting_is m.power;
      setting_is = m.setting_same ∙ s.setting_is;
      left_room = m.left_room ∙ s.left_room;
      right_room = m.right_room ∙ s.right_room;
      left_fits = s.left_fits;
      right_fits = s.right_fits;
      good_first = s.good_first;
      whole_first = s.whole_first;
      stood = record {
        log = s.stood.log;
        left_is = s.stood.left_is;
        right_is = s.stood.right_is;
        ruled = s.stood.ruled;
        leads = s.stood.leads ∙ m.leads;
      };
    }

  -- one more item of core 0
  left_adds : (old new : Hub D K) (did : Did) → Wherever old (Moves old new 0 did)
      → (b : Base S K) (left right : List Did) → Stand old b left right
      → Fits b 0 (left ++ did ∷ []) → Stand new b (left ++ did ∷ []) right
  left_adds old new did moves b left right s fits =
      let m = moves s.flash s.noted s.is_off s.told s.counted (power_here old new b left right s) in
      stands_more old new b left right s 0 did (omega arith) m (left ++ did ∷ []) right
      (more_of old new b left right s 0 did (omega arith) m 0
      ∙ ap (λ (share : List Did). share ++ did ∷ []) s.stood.left_is)
      (more_of old new b left right s 0 did (omega arith) m 1
      ∙ append-nil (of_core 1 s.stood.log) ∙ s.stood.right_is)
      fits s.right_fits

  -- one more item of core 1
  right_adds : (old new : Hub D K) (did : Did) → Wherever old (Moves old new 1 did)
      → (b : Base S K) (left right : List Did) → Stand old b left right
      → Fits b 1 (right ++ did ∷ []) → Stand new b left (right ++ did ∷ [])
  right_adds old new did moves b left right s fits =
      let m = moves s.flash s.noted s.is_off s.told s.counted (power_here old new b left right s) in
      stands_more old new b left right s 1 did (omega arith) m left (right ++ did ∷ [])
      (more_of old new b left right s 1 did (omega arith) m 0
      ∙ append-nil (of_core 0 s.stood.log) ∙ s.stood.left_is)
      (more_of old new b left right s 1 did (omega arith) m 1
      ∙ ap (λ (share : List Did). share ++ did ∷ []) s.stood.right_is)
      s.left_fits fits

  -- one more item of a core
  pub adds : (old new : Hub D K) (c : ℕ) (did : Did) → c < 2 → Wherever old (Moves old new c did)
      → GoesOn Stand Fits old new c (did ∷ [])
  adds old new zero did small moves = λ b mine theirs s fits.
      left_adds old new did moves b mine theirs s fits
  adds old new (suc zero) did small moves = λ b mine theirs s fits.
      right_adds old new did moves b theirs mine s fits
  adds old new (suc (suc c)) did small moves = absurd (omega arith)

  -- no item
  pub still : (old new : Hub D K) (c : ℕ) → Wherever old (Stays old new)
      → GoesOn Stand Fits old new c []
  still old new zero stays = λ b mine theirs s fits.
      subst (λ (share : List Did). Stand new b share theirs) (sym (append-nil mine))
      (stands_still old new b mine theirs s
      (stays s.flash s.noted s.is_off s.told s.counted (power_here old new b mine theirs s)))
  still old new (suc c) stays = λ b mine theirs s fits.
      subst (λ (share : List Did). Stand new b theirs share) (sym (append-nil mine))
      (stands_still old new b theirs mine s
      (stays s.flash s.noted s.is_off s.told s.counted (power_here old new b theirs mine s)))
