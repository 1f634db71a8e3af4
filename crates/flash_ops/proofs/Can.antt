-- What a core can still do behind a first part of the moves.
use Rattle.std.proofs.Common.{◌≡◌, ℕ, ◌+◌, ◌≤◌, ◌++◌, ◌∙◌, ap, subst, sym, arith, inl, inr, List, [], ◌∷◌, length, Option, Some, None, Result, Ok, Err, OnOk}
use Rattle.core_state.specs.declared.registers.Regs.{Regs}
use Rattle.nor_device.specs.declared.step.Step.{Step}
use Rattle.nor_device.specs.declared.nor.NorFault.{NorFault}
use Rattle.atomic_table.specs.Seated.{TableId}
use Rattle.bus_hub.specs.Fetch.{IsFixed, IsServed}
use Rattle.bus_hub.specs.declared.did.Base.{Base}
use Rattle.bus_hub.specs.declared.did.Did.{Did}
use Rattle.bus_hub.specs.Hub.{needs, byte_needs}
use Rattle.bus_hub.specs.Shares.{made, moved_by}
use Rattle.bus_hub.proofs.Parts.{moved_by-append}
use Rattle.cache_gate.specs.Own.{Own, Keeps, HasRoom, HasRoomIn, OnBase, IsFirst, IsInside}
use Rattle.cache_gate.specs.Rounds.{Spends}
use Rattle.cache_gate.proofs.Rooms.{room_added, room_left}
use Rattle.flash_ops.specs.Moves.{Move, Make, Look, Ask, Stops, Ran, HasRun, looks, steps_of, entries_for, bytes_for}
use Rattle.flash_ops.specs.Asked.{GrantsAll, MayMakeAll, HasRoomFor, CanLook, CanMakeMoves}
use Rattle.flash_ops.proofs.Runs.{base_same, steps_of-append, entries_for-append, bytes_for-append, made_more, needs_follows, byte_needs_follows}

module _ {P : Type 0} (grants : P → Step → Type 0) (moved : P → Step → P) where
  pub grants_first : (p : P) (a b : List Step) → GrantsAll grants moved p (a ++ b)
      → GrantsAll grants moved p a
  grants_first p [] b all = tt
  grants_first p (step ∷ a) b all = (all.0, grants_first (moved p step) a b all.1)

  pub grants_then : (p : P) (a b : List Step) → GrantsAll grants moved p (a ++ b)
      → GrantsAll grants moved (moved_by moved p a) b
  grants_then p [] b all = all
  grants_then p (step ∷ a) b all = grants_then (moved p step) a b all.1

  pub grants_both : (p : P) (a b : List Step) → GrantsAll grants moved p a
      → GrantsAll grants moved (moved_by moved p a) b → GrantsAll grants moved p (a ++ b)
  grants_both p [] b first later = later
  grants_both p (step ∷ a) b first later =
      (first.0, grants_both (moved p step) a b first.1 later)

module _ {S K P : Type 0} (part : K → ℕ → P) (grants : P → Step → Type 0) (moved : P → Step → P)
  where
    may_first : (base : Option (Base S K)) (c : ℕ) (share : List Did) (a b : List Step)
        → MayMakeAll part grants moved base c share (a ++ b)
        → MayMakeAll part grants moved base c share a
    may_first None c share a b may = absurd may
    may_first (Some base) c share a b may =
        grants_first grants moved (moved_by moved (part base.duty c) (made share)) a b may

    may_then : (base : Option (Base S K)) (c : ℕ) (share items : List Did) (a b : List Step)
        → made (share ++ items) ≡ made share ++ a
        → MayMakeAll part grants moved base c share (a ++ b)
        → MayMakeAll part grants moved base c (share ++ items) b
    may_then None c share items a b more may = absurd may
    may_then (Some base) c share items a b more may =
        subst (λ (p : P). GrantsAll grants moved p b)
        (sym (ap (λ (l : List Step). moved_by moved (part base.duty c) l) more
        ∙ moved_by-append moved (part base.duty c) (made share) a))
        (grants_then grants moved (moved_by moved (part base.duty c) (made share)) a b may)

    room_first : (base : Option (Base S K)) (c : ℕ) (share : List Did) (a b : List Move)
        → HasRoomFor base c share (a ++ b) → HasRoomFor base c share a
    room_first None c share a b room = absurd room
    room_first (Some base) c share a b room =
        let e = entries_for-append a b in
        let f = bytes_for-append a b in
        let x = room.entries_fit in
        let y = room.bytes_fit in
        record { entries_fit = omega arith; bytes_fit = omega arith }

    room_then : (base : Option (Base S K)) (c : ℕ) (share items : List Did) (a b : List Move)
        → needs items ≡ entries_for a → byte_needs items ≡ bytes_for a
        → HasRoomFor base c share (a ++ b) → HasRoomFor base c (share ++ items) b
    room_then base c share items a b few small room =
        let e : entries_for (a ++ b) ≡ entries_for b + entries_for a =
        let x = entries_for-append a b in omega arith in
        let f : bytes_for (a ++ b) ≡ bytes_for b + bytes_for a =
        let x = bytes_for-append a b in omega arith in
        room_left base c share items (entries_for b) (bytes_for b) (entries_for a) (bytes_for a)
        (subst (λ (z : ℕ × ℕ). HasRoom base c share z.0 z.1) (λ i. (e i, f i)) room)
        (omega arith) (omega arith)

    -- of the first part
    pub can_first : (a b : List Move) (probe : Option ℕ) (o : Own (Base S K) Did)
        → CanMakeMoves part grants moved (a ++ b) probe o → CanMakeMoves part grants moved a probe o
    can_first a b probe o can = record {
      may = may_first o.base o.core o.share (steps_of a) (steps_of b)
          (subst (λ (s : List Step). MayMakeAll part grants moved o.base o.core o.share s)
          (steps_of-append a b) can.may);
      room = room_first o.base o.core o.share a b can.room;
      look = can.look;
    }

    -- of the rest, once the first part was made
    pub can_then : (k : ℕ) (a b : List Move) (probe : Option ℕ) (o p : Own (Base S K) Did)
        → CanMakeMoves part grants moved (a ++ b) probe o → HasRun k a (Ok tt) o p
        → CanMakeMoves part grants moved b probe p
    can_then k a b probe o p can run =
        subst (λ (z : Own (Base S K) Did). CanMakeMoves part grants moved b probe z) (sym run.adds.is)
        (record {
          may = may_then o.base o.core o.share run.items (steps_of a) (steps_of b)
              (made_more k o.regs a o.share run.items run.ran)
              (subst (λ (s : List Step). MayMakeAll part grants moved o.base o.core o.share s)
              (steps_of-append a b) can.may);
          room = room_then o.base o.core o.share run.items a b
              (needs_follows k o.regs a run.items run.ran)
              (byte_needs_follows k o.regs a run.items run.ran) can.room;
          look = can.look;
        })

    -- beside walks that add nothing
    pub can_kept : (ms : List Move) (probe : Option ℕ) (o p : Own (Base S K) Did) → Keeps o p
        → CanMakeMoves part grants moved ms probe o → CanMakeMoves part grants moved ms probe p
    can_kept ms probe o p x can =
        subst (λ (z : Own (Base S K) Did). CanMakeMoves part grants moved ms probe z) (sym x.is)
        (record { may = can.may; room = can.room; look = can.look })

    -- with no look
    pub can_blind : (ms : List Move) (probe : Option ℕ) (o : Own (Base S K) Did)
        → CanMakeMoves part grants moved ms probe o → CanMakeMoves part grants moved ms None o
    can_blind ms probe o can = record { may = can.may; room = can.room; look = tt }

    -- room for the look behind a quiet period
    pub room_behind : (k : ℕ) (ms : List Move) (probe looked : Option ℕ)
        (made : Result (Unit {0}) NorFault) (o a b c : Own (Base S K) Did) → looked ≡ probe
        → CanMakeMoves part grants moved (ms ++ looks probe) probe o → Keeps o a → HasRun k ms made a b
        → Keeps b c → OnOk made (HasRoomFor c.base c.core c.share (looks looked))
    room_behind k ms probe looked (Ok u) o a b c same can x run y =
        subst (λ (p : Option ℕ). HasRoomFor c.base c.core c.share (looks p)) (sym same)
        (can_kept (looks probe) probe b c y
        (can_then k ms (looks probe) probe a b
        (can_kept (ms ++ looks probe) probe o a x can) run)).room
    room_behind k ms probe looked (Err why) o a b c same can x run y = tt

-- the flash is as long as before
pub inside_run : {S K : Type 0} (k : ℕ) (ms : List Move) (r : Result (Unit {0}) NorFault)
    (o p : Own (Base S K) Did) (n : ℕ) → HasRun k ms r o p → IsInside o.base n
    → IsInside p.base n
inside_run {S} {K} k ms r o p n run inside =
    subst (λ (z : Option (Base S K)). IsInside z n) (sym (base_same k ms r o p run)) inside

module _ {P : Type 0} (grants : P → Step → Type 0) (moved : P → Step → P) where
  -- a part that allows every step
  pub grants_each : ((p : P) (step : Step) → grants p step) → (p : P) (steps : List Step)
      → GrantsAll grants moved p steps
  grants_each each p [] = tt
  grants_each each p (step ∷ steps) = (each p step, grants_each each (moved p step) steps)

  pub may_each : {S K : Type 0} (part : K → ℕ → P) → ((p : P) (step : Step) → grants p step)
      → (base : Option (Base S K)) (c : ℕ) (share : List Did) (steps : List Step)
      (holds : Base S K → Type 0) → OnBase base holds
      → MayMakeAll part grants moved base c share steps
  may_each part each None c share steps holds some = absurd some
  may_each part each (Some b) c share steps holds some =
      grants_each each (moved_by moved (part b.duty c) (made share)) steps

-- room for more is room for less
pub room_less : {S K : Type 0} (base : Option (Base S K)) (c : ℕ) (share : List Did)
    (n m i j : ℕ) → n ≤ i → m ≤ j → HasRoom base c share i j → HasRoom base c share n m
room_less None c share n m i j less fewer room = absurd room
room_less (Some b) c share n m i j less fewer room =
    let x = room.entries_fit in
    let y = room.bytes_fit in
    record { entries_fit = omega arith; bytes_fit = omega arith }

-- a look needs an entry and 4 bytes
pub looks_few : (probe : Option ℕ) → (entries_for (looks probe) ≤ 1) × (bytes_for (looks probe) ≤ 4)
looks_few None = (omega arith, omega arith)
looks_few (Some at) = (omega arith, omega arith)

module _ (k : ℕ) (regs : Regs) (why : NorFault) where
  -- what was refused needs no more than all of it
  pub needs_stops : (ms : List Move) (items : List Did) → Stops k regs why ms items
      → (needs items ≤ entries_for ms) × (byte_needs items ≤ bytes_for ms)
  needs_stops [] items s = absurd s
  needs_stops (Make step ∷ ms) items (inl is) =
      let e : needs items ≡ 0 = ap needs is in
      let f : byte_needs items ≡ 0 = ap byte_needs is in
      (omega arith, omega arith)
  needs_stops (Make step ∷ ms) items (inr (inl s)) =
      let e : needs items ≡ 2 = ap needs s.1 in
      let f : byte_needs items ≡ 0 = ap byte_needs s.1 in
      (omega arith, omega arith)
  needs_stops (Make step ∷ ms) items (inr (inr s)) =
      let later = needs_stops ms s.0 s.2 in
      let e : needs items ≡ 2 + (0 + needs s.0) = ap needs s.1 in
      let f : byte_needs items ≡ 0 + (0 + byte_needs s.0) = ap byte_needs s.1 in
      let x = later.0 in
      let y = later.1 in
      (omega arith, omega arith)
  needs_stops (Look at ∷ ms) items (inl is) =
      let e : needs items ≡ 0 = ap needs is in
      let f : byte_needs items ≡ 0 = ap byte_needs is in
      (omega arith, omega arith)
  needs_stops (Look at ∷ ms) items (inr s) =
      let later = needs_stops ms s.1 s.4 in
      let many = s.2 in
      let e : needs items ≡ 1 + needs s.1 = ap needs s.3 in
      let f : byte_needs items ≡ length s.0 + byte_needs s.1 = ap byte_needs s.3 in
      let x = later.0 in
      let y = later.1 in
      (omega arith, omega arith)
  needs_stops (Ask ∷ ms) items (inl is) =
      let e : needs items ≡ 0 = ap needs is in
      let f : byte_needs items ≡ 0 = ap byte_needs is in
      (omega arith, omega arith)
  needs_stops (Ask ∷ ms) items (inr s) = needs_stops ms items s

needs_ran : (k : ℕ) (regs : Regs) (ms : List Move) (r : Result (Unit {0}) NorFault)
    (items : List Did) → Ran k regs ms r items
    → (needs items ≤ entries_for ms) × (byte_needs items ≤ bytes_for ms)
needs_ran k regs ms (Ok u) items ran =
    let e = needs_follows k regs ms items ran in
    let f = byte_needs_follows k regs ms items ran in
    (omega arith, omega arith)
needs_ran k regs ms (Err why) items ran = needs_stops k regs why ms items ran

-- what moves spend of the room, by whatever answer
pub run_spends : {S K : Type 0} (k : ℕ) (ms : List Move) (r : Result (Unit {0}) NorFault)
    (o p : Own (Base S K) Did) (n m : ℕ) → HasRun k ms r o p → entries_for ms ≤ n
    → bytes_for ms ≤ m → Spends n m o p
run_spends {S} {K} k ms r o p n m run few small =
    let need = needs_ran k o.regs ms r run.items run.ran in
    let x = need.0 in
    let y = need.1 in
    record {
      table = ap (λ (z : Own (Base S K) Did). z.table) run.adds.is;
      core = ap (λ (z : Own (Base S K) Did). z.core) run.adds.is;
      base = ap (λ (z : Own (Base S K) Did). z.base) run.adds.is;
      room = λ i j room. room_added o p run.items i j n m run.adds room (omega arith) (omega arith);
    }

-- a core whose duty allows every step
pub can_each : {S K P : Type 0} (part : K → ℕ → P) (grants : P → Step → Type 0)
    (moved : P → Step → P) → ((p : P) (step : Step) → grants p step) → (ms : List Move)
    (probe : Option ℕ) (o : Own (Base S K) Did) (n m : ℕ) → HasRoom o.base o.core o.share n m
    → entries_for ms ≤ n → bytes_for ms ≤ m → CanLook o.base o.regs probe
    → CanMakeMoves part grants moved ms probe o
can_each {S} {K} {P} part grants moved each ms probe o n m room few small look = record {
  may = may_each grants moved part each o.base o.core o.share (steps_of ms)
      (λ b. HasRoomIn b o.core o.share n m) room;
  room = room_less o.base o.core o.share (entries_for ms) (bytes_for ms) n m few small room;
  look = look;
}

-- a core that was just opened can look at what is fixed in its base
pub look_first : {S K : Type 0} (words : TableId) (c at : ℕ) (base : Base S K)
    (o : Own (Base S K) Did) → IsFirst words c base o → IsFixed base.map (length base.flash) at 4
    → IsServed 3 at → CanLook o.base o.regs (Some at)
look_first {S} {K} words c at base o is fixed served =
    subst (λ (z : Own (Base S K) Did). CanLook z.base z.regs (Some at)) (sym is) (fixed, served)
