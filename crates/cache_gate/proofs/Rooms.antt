-- For callers: the room that is left, and what a bus is opened with.
use Rattle.std.proofs.Common.{◌≡◌, ℕ, ◌+◌, ◌-◌, ◌*◌, ◌<◌, ◌≤◌, ◌++◌, ◌∙◌, ap, subst, sym, refl, List, Option, Some, None, Result, Ok, Err, inl, inr, arith}
use Rattle.nor_device.specs.declared.step.Step.{Step}
use Rattle.nor_device.specs.declared.nor.NorFault.{NorFault}
use Rattle.mmu_map.specs.Map.{Map}
use Rattle.bus_hub.specs.declared.did.Did.{Did}
use Rattle.bus_hub.specs.declared.did.Base.{Base}
use Rattle.bus_hub.specs.declared.reads.FetchNo.{FetchNo}
use Rattle.bus_hub.specs.declared.reads.FetchNo.TheVariants as refusals
use Rattle.bus_hub.specs.Room.{Kept}
use Rattle.bus_hub.specs.Hub.{Hub, IsTold, IsBaseOf, opened, needs, byte_needs}
use Rattle.bus_hub.specs.Told.{held}
use Rattle.cache_gate.specs.Own.{Own, HasRoom, Keeps, Adds, HasFetched, HasStepped, base_of}
use Rattle.cache_gate.specs.Rounds.{Spends}
use Rattle.cache_gate.proofs.Taken.{needs-append, byte_needs-append}

module _ {S K : Type 0} where
  -- what is left of the room once these items are in the share
  pub room_left : (base : Option (Base S K)) (c : ℕ) (share items : List Did) (n m i j : ℕ)
      → HasRoom base c share (n + i) (m + j) → needs items ≤ i → byte_needs items ≤ j
      → HasRoom base c (share ++ items) n m
  room_left None c share items n m i j room few small = absurd room
  room_left (Some b) c share items n m i j room few small =
      let e = needs-append share items in
      let f = byte_needs-append share items in
      let x = room.entries_fit in
      let y = room.bytes_fit in
      record { entries_fit = omega arith; bytes_fit = omega arith }

  -- what a core has room for as it adds them
  pub room_added : (o o' : Own (Base S K) Did) (items : List Did) (n m i j : ℕ) → Adds items o o'
      → HasRoom o.base o.core o.share (n + i) (m + j) → needs items ≤ i → byte_needs items ≤ j
      → HasRoom o'.base o'.core o'.share n m
  room_added o o' items n m i j a room few small =
      subst (λ (z : Own (Base S K) Did). HasRoom z.base z.core z.share n m) (sym a.is)
      (room_left o.base o.core o.share items n m i j room few small)

  pub room_kept : (o o' : Own (Base S K) Did) (n m : ℕ) → Keeps o o'
      → HasRoom o.base o.core o.share n m → HasRoom o'.base o'.core o'.share n m
  room_kept o o' n m a room =
      subst (λ (z : Own (Base S K) Did). HasRoom z.base z.core z.share n m) (sym a.is) room

-- a bus that was just made stands for the base that it is opened with
pub base_is : {D S K : Type 0} (bytes : D → Option (List ℕ)) (off : D → _) (steps faults : D → ℕ)
    (setting : D → S) (dev : D) (map : Map) (journal : Kept) (duty : K) (h : Hub D K)
    → IsTold (bytes dev) → h ≡ opened dev map journal duty
    → IsBaseOf bytes off steps faults setting (base_of bytes off steps faults setting h) dev map
    journal duty
base_is bytes off steps faults setting dev map journal duty h told e =
    subst (λ (z : Hub _ _). IsBaseOf bytes off steps faults setting
    (base_of bytes off steps faults setting z) dev map journal duty) (sym e) (record {
      flash_is = told.is ∙ ap (λ (b : Option (List ℕ)). Some (held b)) (sym told.is);
      map_is = refl;
      duty_is = refl;
      left_is = refl;
      right_is = refl;
      setting_is = refl;
      steps_are = refl;
      faults_are = refl;
      off_is = refl;
    })

distr : (n e : ℕ) → (n + 1) * e ≡ n * e + e
distr n e = grind arith

one_less : (times i e : ℕ) → i < times → (times - i) * e ≡ (times - (i + 1)) * e + e
one_less times i e within =
    let d : times - i ≡ (times - (i + 1)) + 1 = omega arith in
    ap (λ (n : ℕ). n * e) d ∙ distr (times - (i + 1)) e

module _ {S K : Type 0} where
  spends_as : (o a : Own (Base S K) Did) (items : List Did) (i j : ℕ) → Adds items o a
      → needs items ≤ i → byte_needs items ≤ j → Spends i j o a
  spends_as o a items i j h few small = record {
    table = ap (λ (z : Own (Base S K) Did). z.table) h.is;
    core = ap (λ (z : Own (Base S K) Did). z.core) h.is;
    base = ap (λ (z : Own (Base S K) Did). z.base) h.is;
    room = λ n m room. room_added o a items n m i j h room few small;
  }

  -- a fetch spends an entry and its bytes, a step two entries
  pub fetch_spends : (o a : Own (Base S K) Did) (k at len : ℕ) (r : Result (Unit {0}) FetchNo)
      → HasFetched k at len r o a → Spends 1 len o a
  fetch_spends o a k at len (Ok u) h =
      spends_as o a _ 1 len h.adds (omega arith) (let e = h.many in omega arith)
  fetch_spends o a k at len (Err refusals.Unmapped) h =
      spends_as o a _ 1 len h (omega arith) (omega arith)
  fetch_spends o a k at len (Err refusals.Masked) h =
      spends_as o a _ 1 len h (omega arith) (omega arith)
  fetch_spends o a k at len (Err refusals.Off) h =
      spends_as o a _ 1 len h (omega arith) (omega arith)
  fetch_spends o a k at len (Err refusals.Failed) h =
      spends_as o a _ 1 len h (omega arith) (omega arith)

  pub step_spends : (o a : Own (Base S K) Did) (k : ℕ) (step : Step)
      (r : Result (Unit {0}) NorFault) → HasStepped k step r o a → Spends 2 0 o a
  step_spends o a k step (Ok u) h = spends_as o a _ 2 0 h (omega arith) (omega arith)
  step_spends o a k step (Err why) (inl h) = spends_as o a _ 2 0 h (omega arith) (omega arith)
  step_spends o a k step (Err why) (inr h) = spends_as o a _ 2 0 h.adds (omega arith) (omega arith)

  -- beside walks that add nothing
  pub spends_after : (o a b : Own (Base S K) Did) (i j : ℕ) → Keeps o a → Spends i j a b
      → Spends i j o b
  spends_after o a b i j h s = record {
    table = s.table ∙ ap (λ (z : Own (Base S K) Did). z.table) h.is;
    core = s.core ∙ ap (λ (z : Own (Base S K) Did). z.core) h.is;
    base = s.base ∙ ap (λ (z : Own (Base S K) Did). z.base) h.is;
    room = λ n m room. s.room n m (room_kept o a (n + i) (m + j) h room);
  }

  pub spends_before : (o a b : Own (Base S K) Did) (i j : ℕ) → Spends i j o a → Keeps a b
      → Spends i j o b
  spends_before o a b i j s h = record {
    table = ap (λ (z : Own (Base S K) Did). z.table) h.is ∙ s.table;
    core = ap (λ (z : Own (Base S K) Did). z.core) h.is ∙ s.core;
    base = ap (λ (z : Own (Base S K) Did). z.base) h.is ∙ s.base;
    room = λ n m room. room_kept a b n m h (s.room n m room);
  }

  -- round by round
  pub rounds_left : (o a b : Own (Base S K) Did) (times i e j : ℕ) → i < times → Spends e j a b
      → HasRoom a.base a.core a.share ((times - i) * e) ((times - i) * j)
      → HasRoom b.base b.core b.share ((times - (i + 1)) * e) ((times - (i + 1)) * j)
  rounds_left o a b times i e j within s room =
      s.room _ _ (subst (λ (z : ℕ × ℕ). HasRoom a.base a.core a.share z.0 z.1)
      (λ k. (one_less times i e within k, one_less times i j within k)) room)
