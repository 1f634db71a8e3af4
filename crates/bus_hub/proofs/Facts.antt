-- What a bus that stands for a base and two shares is, by the log.
use Rattle.std.specs.Prelude.{◌≡◌, ◌≢◌, ℕ, zero, suc, ◌+◌, ◌<◌, ◌≤◌, Bool, List, length, refl, Option, None}
use Rattle.std.proofs.Common.{◌∙◌, sym, ap, subst, arith}
use Rattle.core_state.specs.Sharing.{in_order}
use Rattle.nor_device.specs.declared.step.Step.{Step}
use Rattle.nor_device.specs.declared.nor.StepEnd.{StepEnd}
use Rattle.nor_device.specs.declared.nor.NorFault.{NorFault}
use Rattle.bus_hub.specs.declared.journal.Room.{Room}
use Rattle.bus_hub.specs.declared.did.Running.{Running}
use Rattle.bus_hub.specs.declared.did.Did.{Did}
use Rattle.bus_hub.specs.declared.did.Base.{Base}
use Rattle.bus_hub.specs.Room.{HasRoom}
use Rattle.bus_hub.specs.Log.{State, of_core, reached}
use Rattle.bus_hub.specs.Hub.{Hub, Stands, begun, needs, byte_needs, owed, room_of, core_of}
use Rattle.bus_hub.specs.Shares.{own_begun, open_from, made, moved_by, ShowsFlash}
use Rattle.bus_hub.specs.Legal.{LegalTo}
use Rattle.bus_hub.proofs.Parts.{known_by_log}
use Rattle.bus_hub.proofs.Rooms.{spent, spent_log, bytes_log}
use Rattle.bus_hub.proofs.LegalLog.{legal_log}
use Rattle.bus_hub.proofs.FlashLog.{shows_log}

module _ {D S K P : Type 0}
    (bytes : D → Option (List ℕ)) (off : D → Bool) (steps faults : D → ℕ) (setting : D → S)
    (may_end : S → ℕ → StepEnd → Type 0) (may_tear : S → ℕ → List ℕ → Step → List ℕ → Type 0)
    (may_refuse : S → ℕ → NorFault → Type 0) (must_refuse : S → ℕ → Type 0)
    (part : K → ℕ → P) (grants : P → Step → Type 0) (moved : P → Step → P)
    (after : K → ℕ → Step → K) (good : List ℕ → K → List ℕ → Type 0)
    (own : (duty : K) (c : ℕ) (step : Step) → part (after duty c step) c ≡ moved (part duty c) step)
    (other : (duty : K) (c o : ℕ) (step : Step) → c ≢ o → part (after duty o step) c ≡ part duty c)
  where
    abbrev pub StandsBy : Hub D K → Base S K → List Did → List Did → Type 0
    StandsBy = Stands bytes off steps faults setting may_end may_tear may_refuse must_refuse
        part grants after good

    -- a core knows its part and its step by the share
    known : (h : Hub D K) (b : Base S K) (left right share : List Did) (c : ℕ)
        (s : StandsBy h b left right) → of_core c s.stood.log ≡ share
        → (part h.duty c ≡ moved_by moved (part b.duty c) (made share))
        × (own_begun c h.running ≡ open_from None share)
    known h b left right share c s is =
        let k = known_by_log may_end may_tear may_refuse must_refuse part grants moved after own
        other
        b.setting (begun b) c s.stood.log s.stood.ruled in
        let duty_is : (reached after (begun b) s.stood.log).duty ≡ h.duty =
        ap (λ (t : State K). t.duty) s.stood.leads in
        let run_is : (reached after (begun b) s.stood.log).running ≡ h.running =
        ap (λ (t : State K). t.running) s.stood.leads in (
          ap (λ (d : K). part d c) (sym duty_is) ∙ k.part_is
              ∙ ap (λ (l : List Did). moved_by moved (part b.duty c) (made l)) is,
          ap (λ (o : Option Running). own_begun c o) (sym run_is) ∙ k.open_is
              ∙ ap (λ (l : List Did). open_from None l) is,
        )

    pub part_now : (h : Hub D K) (b : Base S K) (c : ℕ) (mine theirs : List Did) → c < 2
        → in_order (StandsBy h b) c mine theirs
        → (part h.duty c ≡ moved_by moved (part b.duty c) (made mine))
        × (own_begun c h.running ≡ open_from None mine)
    part_now h b zero mine theirs small s = known h b mine theirs mine 0 s s.stood.left_is
    part_now h b (suc zero) mine theirs small s = known h b theirs mine mine 1 s s.stood.right_is
    part_now h b (suc (suc c)) mine theirs small s = absurd (omega arith)

    -- what a core has room for, the journal has
    roomy : (h : Hub D K) (b : Base S K) (left right : List Did) (n m : ℕ)
        (s : StandsBy h b left right)
        → needs left + needs right + n ≤ b.left_room.entries + b.right_room.entries
        → byte_needs left + byte_needs right + m ≤ b.left_room.bytes + b.right_room.bytes
        → HasRoom h.journal (owed h.running + n) m
    roomy h b left right n m s entries_fit bytes_fit =
        let all = spent_log may_end may_tear may_refuse must_refuse part grants after b.setting
        (begun b) s.stood.log s.stood.ruled in
        let every = bytes_log may_end may_tear may_refuse must_refuse part grants after b.setting
        (begun b) s.stood.log s.stood.ruled in
        let spent_is = ap (λ (t : State K). spent t) s.stood.leads in
        let bytes_is = ap (λ (t : State K). length t.bytes) s.stood.leads in
        let left_is = ap needs s.stood.left_is in
        let right_is = ap needs s.stood.right_is in
        let left_bytes = ap byte_needs s.stood.left_is in
        let right_bytes = ap byte_needs s.stood.right_is in
        let room_left = s.left_room in
        let room_right = s.right_room in
        record {
          entries_fit = subst (λ (r : Room). length h.journal.entries + (owed h.running + n)
              ≤ r.entries + h.journal.right_room.entries) (sym room_left)
              (subst (λ (r : Room). length h.journal.entries + (owed h.running + n)
              ≤ b.left_room.entries + r.entries) (sym room_right)
              (omega (arith, all, spent_is, left_is, right_is, entries_fit)));
          bytes_fit = subst (λ (r : Room). length h.journal.bytes + m
              ≤ r.bytes + h.journal.right_room.bytes) (sym room_left)
              (subst (λ (r : Room). length h.journal.bytes + m
              ≤ b.left_room.bytes + r.bytes) (sym room_right)
              (omega (arith, every, bytes_is, left_bytes, right_bytes, bytes_fit)));
        }

    pub room_now : (h : Hub D K) (b : Base S K) (c : ℕ) (mine theirs : List Did) (n m : ℕ) → c < 2
        → in_order (StandsBy h b) c mine theirs → needs mine + n ≤ (room_of b c).entries
        → byte_needs mine + m ≤ (room_of b c).bytes → HasRoom h.journal (owed h.running + n) m
    room_now h b zero mine theirs n m small s entries_fit bytes_fit =
        roomy h b mine theirs n m s (omega (arith, s.right_fits.entries_fit))
        (omega (arith, s.right_fits.bytes_fit))
    room_now h b (suc zero) mine theirs n m small s entries_fit bytes_fit =
        roomy h b theirs mine n m s (omega (arith, s.left_fits.entries_fit))
        (omega (arith, s.left_fits.bytes_fit))
    room_now h b (suc (suc c)) mine theirs n m small s entries_fit bytes_fit = absurd (omega arith)

    -- the journal is legal
    pub legal_now : (h : Hub D K) (b : Base S K) (left right : List Did) → StandsBy h b left right
        → LegalTo None h.journal.entries (core_of h.running)
    legal_now h b left right s =
        subst (λ (t : State K). LegalTo None t.entries (core_of t.running)) s.stood.leads
        (legal_log may_end may_tear may_refuse must_refuse part grants after b.setting (begun b)
        s.stood.log s.stood.ruled refl)

    -- each fetch shows the flash at its entry
    pub shows_now : (h : Hub D K) (b : Base S K) (left right : List Did) (s : StandsBy h b left
        right)
        → ShowsFlash b.map b.flash s.stood.log
    shows_now h b left right s =
        shows_log may_end may_tear may_refuse must_refuse part grants after b.setting (begun b)
        s.stood.log s.stood.ruled refl
