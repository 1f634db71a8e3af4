-- What a core knows of the bus by its own share, whatever the other core did.
use Rattle.std.specs.Prelude.{◌≡◌, ◌≢◌, ℕ, zero, suc, ◌+◌, ◌<◌, ◌≤◌, Bool, List, length, Option, Some, None}
use Rattle.std.proofs.Common.{sym, subst, zero-add}
use Rattle.core_state.specs.Sharing.{in_order}
use Rattle.nor_device.specs.declared.step.Step.{Step}
use Rattle.nor_device.specs.declared.nor.StepEnd.{StepEnd}
use Rattle.nor_device.specs.declared.nor.NorFault.{NorFault}
use Rattle.bus_hub.specs.declared.did.Running.{Running}
use Rattle.bus_hub.specs.declared.did.Did.{Did}
use Rattle.bus_hub.specs.declared.did.Base.{Base}
use Rattle.bus_hub.specs.Room.{HasRoom}
use Rattle.bus_hub.specs.Hub.{Hub, Stands, needs, byte_needs, owed, room_of}
use Rattle.bus_hub.specs.Shares.{own_begun, open_from, made, moved_by}
use Rattle.bus_hub.proofs.Facts as facts
use Rattle.bus_hub.proofs.Stops as stops

module _ {D S K P : Type 0}
    (bytes : D → Option (List ℕ)) (size : D → ℕ) (off : D → Bool) (steps faults : D → ℕ)
    (setting : D → S)
    (may_end : S → ℕ → StepEnd → Type 0) (may_tear : S → ℕ → List ℕ → Step → List ℕ → Type 0)
    (may_refuse : S → ℕ → NorFault → Type 0) (must_refuse : S → ℕ → Type 0)
    (part : K → ℕ → P) (grants : P → Step → Type 0) (moved : P → Step → P)
    (after : K → ℕ → Step → K) (good : List ℕ → K → List ℕ → Type 0)
    (own : (duty : K) (c : ℕ) (step : Step)
    → part (after duty c step) c ≡ moved (part duty c) step)
    (other : (duty : K) (c o : ℕ) (step : Step)
    → c ≢ o → part (after duty o step) c ≡ part duty c)
    (sized : (device : D) (flash : List ℕ) → bytes device ≡ Some flash
    → length flash ≡ size device) where
  abbrev pub StandsBy : Hub D K → Base S K → List Did → List Did → Type 0
  StandsBy = Stands bytes off steps faults setting may_end may_tear may_refuse must_refuse
      part grants after good

  -- its part of the duty
  pub part_now : (h : Hub D K) (b : Base S K) (c : ℕ) (mine theirs : List Did) → c < 2
      → in_order (StandsBy h b) c mine theirs
      → part h.duty c ≡ moved_by moved (part b.duty c) (made mine)
  part_now h b c mine theirs small s =
      (facts.part_now bytes off steps faults setting may_end may_tear may_refuse must_refuse part
      grants moved after good own other h b c mine theirs small s).0

  -- a step that it may make by its share, it may make now
  pub may_now : (h : Hub D K) (b : Base S K) (c : ℕ) (mine theirs : List Did) (step : Step)
      → c < 2 → in_order (StandsBy h b) c mine theirs
      → grants (moved_by moved (part b.duty c) (made mine)) step → grants (part h.duty c) step
  may_now h b c mine theirs step small s may =
      subst (λ (p : P). grants p step) (sym (part_now h b c mine theirs small s)) may

  -- its step that runs is the last one that it began and did not end
  pub open_now : (h : Hub D K) (b : Base S K) (c : ℕ) (mine theirs : List Did) → c < 2
      → in_order (StandsBy h b) c mine theirs → own_begun c h.running ≡ open_from None mine
  open_now h b c mine theirs small s =
      (facts.part_now bytes off steps faults setting may_end may_tear may_refuse must_refuse part
      grants moved after good own other h b c mine theirs small s).1

  -- where no step runs, the journal has the room that it has left
  pub room_now : (h : Hub D K) (b : Base S K) (c : ℕ) (mine theirs : List Did) (n m : ℕ) → c < 2
      → in_order (StandsBy h b) c mine theirs → h.running ≡ None
      → needs mine + n ≤ (room_of b c).entries → byte_needs mine + m ≤ (room_of b c).bytes
      → HasRoom h.journal n m
  room_now h b c mine theirs n m small s idle entries_fit bytes_fit =
      let room = facts.room_now bytes off steps faults setting may_end may_tear may_refuse
      must_refuse part grants moved after good own other h b c mine theirs n m small s
      entries_fit bytes_fit in
      subst (λ (k : ℕ). HasRoom h.journal k m) (zero-add n)
      (subst (λ (o : Option Running). HasRoom h.journal (owed o + n) m) idle room)

  -- the device is as large as the flash at the opening
  pub size_now : (h : Hub D K) (b : Base S K) (c : ℕ) (mine theirs : List Did) → c < 2
      → in_order (StandsBy h b) c mine theirs → size h.dev ≡ length b.flash
  size_now h b zero mine theirs small s =
      sym (stops.size_now may_end may_tear may_refuse must_refuse part grants after bytes size off
      steps faults setting good sized h b mine theirs s)
  size_now h b (suc c) mine theirs small s =
      sym (stops.size_now may_end may_tear may_refuse must_refuse part grants after bytes size off
      steps faults setting good sized h b theirs mine s)
