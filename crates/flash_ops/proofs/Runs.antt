-- Moves one after the other, and what a share shows of them.
use Rattle.std.proofs.Common.{◌≡◌, ℕ, zero, suc, ◌+◌, ◌*◌, ◌++◌, ◌∙◌, ap, subst, sym, refl, arith, inl, inr, List, [], ◌∷◌, length, take, Option, Some, None, Result, Ok, Err, append-nil, append_assoc}
use Rattle.core_state.specs.declared.registers.Regs.{Regs}
use Rattle.core_state.specs.Registers.{masked}
use Rattle.nor_device.specs.declared.step.Step.{Step}
use Rattle.nor_device.specs.declared.nor.NorFault.{NorFault}
use Rattle.nor_device.specs.declared.nor.NorFault.TheVariants as faults
use Rattle.duo_machine.specs.declared.events.Kind.{Kind}
use Rattle.bus_hub.specs.declared.did.Did.{Did}
use Rattle.bus_hub.specs.declared.did.Did.TheVariants.{Opened, Closed, Broken, Fetched, Denied, Unfetched}
use Rattle.bus_hub.specs.declared.reads.FetchNo.TheVariants as refusals
use Rattle.bus_hub.specs.Hub.{needs, byte_needs}
use Rattle.bus_hub.specs.Shares.{Begun, made, made_by, made_from, open_after, open_from}
use Rattle.bus_hub.specs.Told.{asked}
use Rattle.cache_gate.specs.Works.{Works, events_in}
use Rattle.cache_gate.specs.Own.{Own, Keeps, Adds, HasFetched, HasStepped, did}
use Rattle.cache_gate.proofs.Walks.{works_then, works_none, events_in-append}
use Rattle.flash_ops.specs.Moves.{Move, Make, Look, Ask, Follows, Stops, Ran, HasRun, makes, looks, asks, steps_of, entries_for, bytes_for}
use Rattle.flash_ops.specs.Told.{LooksBehind}

-- ---- lists of moves

pub steps_of-append : (a b : List Move) → steps_of (a ++ b) ≡ steps_of a ++ steps_of b
steps_of-append [] b = refl
steps_of-append (Make step ∷ a) b = ap (λ (s : List Step). step ∷ s) (steps_of-append a b)
steps_of-append (Look at ∷ a) b = steps_of-append a b
steps_of-append (Ask ∷ a) b = steps_of-append a b

pub entries_for-append : (a b : List Move) → entries_for (a ++ b) ≡ entries_for a + entries_for b
entries_for-append [] b = omega arith
entries_for-append (Make step ∷ a) b = let e = entries_for-append a b in omega arith
entries_for-append (Look at ∷ a) b = let e = entries_for-append a b in omega arith
entries_for-append (Ask ∷ a) b = entries_for-append a b

pub bytes_for-append : (a b : List Move) → bytes_for (a ++ b) ≡ bytes_for a + bytes_for b
bytes_for-append [] b = omega arith
bytes_for-append (Make step ∷ a) b = bytes_for-append a b
bytes_for-append (Look at ∷ a) b = let e = bytes_for-append a b in omega arith
bytes_for-append (Ask ∷ a) b = bytes_for-append a b

pub makes-append : (a b : List Step) → makes (a ++ b) ≡ makes a ++ makes b
makes-append [] b = refl
makes-append (step ∷ a) b = ap (λ (m : List Move). Make step ∷ m) (makes-append a b)

pub steps_of_makes : (steps : List Step) → steps_of (makes steps) ≡ steps
steps_of_makes [] = refl
steps_of_makes (step ∷ steps) = ap (λ (s : List Step). step ∷ s) (steps_of_makes steps)

pub entries_for_makes : (steps : List Step) → entries_for (makes steps) ≡ 2 * length steps
entries_for_makes [] = refl
entries_for_makes (step ∷ steps) = let e = entries_for_makes steps in omega arith

pub bytes_for_makes : (steps : List Step) → bytes_for (makes steps) ≡ 0
bytes_for_makes [] = refl
bytes_for_makes (step ∷ steps) = bytes_for_makes steps

pub steps_of_looks : (probe : Option ℕ) → steps_of (looks probe) ≡ []
steps_of_looks None = refl
steps_of_looks (Some at) = refl

-- ---- what was done for them

module _ (k : ℕ) (regs : Regs) where
  pub follows_then : (ms ns : List Move) (a b : List Did) → Follows k regs ms a
      → Follows k regs ns b → Follows k regs (ms ++ ns) (a ++ b)
  follows_then [] ns a b f g = subst (λ (x : List Did). Follows k regs ns (x ++ b)) (sym f) g
  follows_then (Make step ∷ ms) ns a b f g =
      (f.0 ++ b, ap (λ (x : List Did). x ++ b) f.1, follows_then ms ns f.0 b f.2 g)
  follows_then (Look at ∷ ms) ns a b f g =
      (f.0, f.1 ++ b, f.2, ap (λ (x : List Did). x ++ b) f.3, follows_then ms ns f.1 b f.4 g)
  follows_then (Ask ∷ ms) ns a b f g = follows_then ms ns a b f g

  pub stops_later : (why : NorFault) (ms ns : List Move) (a b : List Did) → Follows k regs ms a
      → Stops k regs why ns b → Stops k regs why (ms ++ ns) (a ++ b)
  stops_later why [] ns a b f g =
      subst (λ (x : List Did). Stops k regs why ns (x ++ b)) (sym f) g
  stops_later why (Make step ∷ ms) ns a b f g = inr (inr (
    f.0 ++ b,
    ap (λ (x : List Did). x ++ b) f.1,
    stops_later why ms ns f.0 b f.2 g,
  ))
  stops_later why (Look at ∷ ms) ns a b f g = inr (
    f.0,
    f.1 ++ b,
    f.2,
    ap (λ (x : List Did). x ++ b) f.3,
    stops_later why ms ns f.1 b f.4 g,
  )
  stops_later why (Ask ∷ ms) ns a b f g = inr (stops_later why ms ns a b f g)

  pub stops_before : (why : NorFault) (ms ns : List Move) (a : List Did) → Stops k regs why ms a
      → Stops k regs why (ms ++ ns) a
  stops_before why [] ns a s = absurd s
  stops_before why (Make step ∷ ms) ns a (inl is) = inl is
  stops_before why (Make step ∷ ms) ns a (inr (inl s)) = inr (inl s)
  stops_before why (Make step ∷ ms) ns a (inr (inr s)) =
      inr (inr (s.0, s.1, stops_before why ms ns s.0 s.2))
  stops_before why (Look at ∷ ms) ns a (inl is) = inl is
  stops_before why (Look at ∷ ms) ns a (inr s) =
      inr (s.0, s.1, s.2, s.3, stops_before why ms ns s.1 s.4)
  stops_before why (Ask ∷ ms) ns a (inl is) = inl is
  stops_before why (Ask ∷ ms) ns a (inr s) = inr (stops_before why ms ns a s)

  pub ran_then : (ms ns : List Move) (r : Result (Unit {0}) NorFault) (a b : List Did)
      → Follows k regs ms a → Ran k regs ns r b → Ran k regs (ms ++ ns) r (a ++ b)
  ran_then ms ns (Ok u) a b f g = follows_then ms ns a b f g
  ran_then ms ns (Err why) a b f g = stops_later why ms ns a b f g

  -- the steps that were made, behind any share
  pub made_follows : (open_step : Option Begun) (ms : List Move) (items : List Did)
      → Follows k regs ms items → made_from open_step items ≡ steps_of ms
  made_follows open_step [] items f = ap (λ (x : List Did). made_from open_step x) f
  made_follows open_step (Make step ∷ ms) items f =
      ap (λ (x : List Did). made_from open_step x) f.1
      ∙ ap (λ (s : List Step). step ∷ s) (made_follows None ms f.0 f.2)
  made_follows open_step (Look at ∷ ms) items f =
      ap (λ (x : List Did). made_from open_step x) f.3 ∙ made_follows open_step ms f.1 f.4
  made_follows open_step (Ask ∷ ms) items f = made_follows open_step ms items f

  -- where the device refused, a first part of the steps was made
  pub made_stops : (why : NorFault) (open_step : Option Begun) (ms : List Move) (items : List Did)
      → Stops k regs why ms items
      → (n : ℕ) × (made_from open_step items ≡ take n (steps_of ms))
  made_stops why open_step [] items s = absurd s
  made_stops why open_step (Make step ∷ ms) items (inl is) =
      (0, ap (λ (x : List Did). made_from open_step x) is)
  made_stops why open_step (Make step ∷ ms) items (inr (inl s)) =
      (0, ap (λ (x : List Did). made_from open_step x) s.1)
  made_stops why open_step (Make step ∷ ms) items (inr (inr s)) =
      let later = made_stops why None ms s.0 s.2 in (
        suc later.0,
        ap (λ (x : List Did). made_from open_step x) s.1
            ∙ ap (λ (l : List Step). step ∷ l) later.1,
      )
  made_stops why open_step (Look at ∷ ms) items (inl is) =
      (0, ap (λ (x : List Did). made_from open_step x) is)
  made_stops why open_step (Look at ∷ ms) items (inr s) =
      let later = made_stops why open_step ms s.1 s.4 in
      (later.0, ap (λ (x : List Did). made_from open_step x) s.3 ∙ later.1)
  made_stops why open_step (Ask ∷ ms) items (inl is) =
      (0, ap (λ (x : List Did). made_from open_step x) is)
  made_stops why open_step (Ask ∷ ms) items (inr s) = made_stops why open_step ms items s

  -- what the moves need of the room
  pub needs_follows : (ms : List Move) (items : List Did) → Follows k regs ms items
      → needs items ≡ entries_for ms
  needs_follows [] items f = ap needs f
  needs_follows (Make step ∷ ms) items f =
      let e = needs_follows ms f.0 f.2 in ap needs f.1 ∙ omega arith
  needs_follows (Look at ∷ ms) items f =
      let e = needs_follows ms f.1 f.4 in ap needs f.3 ∙ omega arith
  needs_follows (Ask ∷ ms) items f = needs_follows ms items f

  pub byte_needs_follows : (ms : List Move) (items : List Did) → Follows k regs ms items
      → byte_needs items ≡ bytes_for ms
  byte_needs_follows [] items f = ap byte_needs f
  byte_needs_follows (Make step ∷ ms) items f =
      let e = byte_needs_follows ms f.0 f.2 in ap byte_needs f.1 ∙ omega arith
  byte_needs_follows (Look at ∷ ms) items f =
      let e = byte_needs_follows ms f.1 f.4 in let four = f.2 in ap byte_needs f.3 ∙ omega arith
  byte_needs_follows (Ask ∷ ms) items f = byte_needs_follows ms items f

-- steps that two shares made, one behind the other
pub made_from-append : (open_step : Option Begun) (a b : List Did)
    → made_from open_step (a ++ b) ≡ made_from open_step a ++ made_from (open_from open_step a) b
made_from-append open_step [] b = refl
made_from-append open_step (did ∷ a) b =
    ap (λ (l : List Step). made_by open_step did ++ l)
    (made_from-append (open_after open_step did) a b)
    ∙ sym (append_assoc (made_by open_step did) (made_from (open_after open_step did) a)
    (made_from (open_from (open_after open_step did) a) b))

-- the steps of a share that goes on by moves
pub made_more : (k : ℕ) (regs : Regs) (ms : List Move) (share items : List Did)
    → Follows k regs ms items → made (share ++ items) ≡ made share ++ steps_of ms
made_more k regs ms share items f =
    made_from-append None share items
    ∙ ap (λ (l : List Step). made share ++ l) (made_follows k regs (open_from None share) ms items f)

pub made_part : (k : ℕ) (regs : Regs) (why : NorFault) (ms : List Move) (share items : List Did)
    → Stops k regs why ms items
    → (n : ℕ) × (made (share ++ items) ≡ made share ++ take n (steps_of ms))
made_part k regs why ms share items s =
    let part = made_stops k regs why (open_from None share) ms items s in (
      part.0,
      made_from-append None share items ∙ ap (λ (l : List Step). made share ++ l) part.1,
    )

-- ---- a core that did so

module _ {B : Type 0} where
  pub regs_same : (items : List Did) (o p : Own B Did) → Adds items o p → p.regs ≡ o.regs
  regs_same items o p a = ap (λ (z : Own B Did). z.regs) a.is

  pub adds_then : (a b : List Did) (o p q : Own B Did) → Adds a o p → Adds b p q
      → Adds (a ++ b) o q
  adds_then a b o p q x y = record {
    is = y.is ∙ (ap (λ (z : Own B Did). did z b q.seen) x.is
        ∙ ap (λ (s : List Did). record o { share = s; seen = q.seen })
        (append_assoc o.share a b));
    works = subst (λ (w : List Kind). Works w o.core o.seen q.core q.seen)
        (sym (events_in-append a b))
        (works_then (events_in a) (events_in b) o.core p.core q.core o.seen p.seen q.seen x.works
        y.works);
  }

  pub adds_none : (o p : Own B Did) → Keeps o p → Adds [] o p
  adds_none o p x = record {
    is = x.is ∙ ap (λ (s : List Did). record o { share = s; seen = p.seen })
        (sym (append-nil o.share));
    works = x.works;
  }

  pub keeps_of : (o p : Own B Did) → Adds [] o p → Keeps o p
  keeps_of o p x = record {
    is = x.is ∙ ap (λ (s : List Did). record o { share = s; seen = p.seen })
        (append-nil o.share);
    works = x.works;
  }

  pub keeps_same : (o : Own B Did) → Keeps o o
  keeps_same o = record { is = refl; works = works_none o.core o.seen }

  pub keeps_then : (o p q : Own B Did) → Keeps o p → Keeps p q → Keeps o q
  keeps_then o p q x y =
      keeps_of o q (adds_then [] [] o p q (adds_none o p x) (adds_none p q y))

  pub run_none : (k : ℕ) (o p : Own B Did) → Keeps o p → HasRun k [] (Ok tt) o p
  run_none k o p x = record { items = []; adds = adds_none o p x; ran = refl }

  -- one after the other
  pub run_then : (k : ℕ) (ms ns : List Move) (r : Result (Unit {0}) NorFault) (o p q : Own B Did)
      → HasRun k ms (Ok tt) o p → HasRun k ns r p q → HasRun k (ms ++ ns) r o q
  run_then k ms ns r o p q x y = record {
    items = x.items ++ y.items;
    adds = adds_then x.items y.items o p q x.adds y.adds;
    ran = ran_then k o.regs ms ns r x.items y.items x.ran
        (subst (λ (g : Regs). Ran k g ns r y.items) (regs_same x.items o p x.adds) y.ran);
  }

  -- what was refused is refused of more
  pub run_stops : (k : ℕ) (ms ns : List Move) (why : NorFault) (o p : Own B Did)
      → HasRun k ms (Err why) o p → HasRun k (ms ++ ns) (Err why) o p
  run_stops k ms ns why o p x = record {
    items = x.items;
    adds = x.adds;
    ran = stops_before k o.regs why ms ns x.items x.ran;
  }

  -- beside walks that add nothing
  pub run_after : (k : ℕ) (ms : List Move) (r : Result (Unit {0}) NorFault) (o p q : Own B Did)
      → Keeps o p → HasRun k ms r p q → HasRun k ms r o q
  run_after k ms r o p q x y = run_then k [] ms r o p q (run_none k o p x) y

  pub run_before : (k : ℕ) (ms : List Move) (r : Result (Unit {0}) NorFault) (o p q : Own B Did)
      → HasRun k ms r o p → Keeps p q → HasRun k ms r o q
  run_before k ms (Ok u) o p q x y =
      subst (λ (m : List Move). HasRun k m (Ok tt) o q) (append-nil ms)
      (run_then k ms [] (Ok tt) o p q x (run_none k p q y))
  run_before k ms (Err why) o p q x y = record {
    items = x.items;
    adds = subst (λ (l : List Did). Adds l o q) (append-nil x.items)
        (adds_then x.items [] o p q x.adds (adds_none p q y));
    ran = x.ran;
  }

  -- single moves
  pub run_step : (k : ℕ) (step : Step) (r : Result (Unit {0}) NorFault) (o p : Own B Did)
      → HasStepped k step r o p → HasRun k (Make step ∷ []) r o p
  run_step k step (Ok u) o p h = record {
    items = Opened k masked step ∷ Closed k masked ∷ [];
    adds = h;
    ran = ([], refl, refl);
  }
  run_step k step (Err why) o p (inl h) = record {
    items = Denied why ∷ [];
    adds = h;
    ran = inl refl;
  }
  run_step k step (Err why) o p (inr h) = record {
    items = Opened k masked step ∷ Broken k masked why h.left ∷ [];
    adds = h.adds;
    ran = inr (inl (h.left, refl));
  }

  pub run_look : (k at : ℕ) (o p : Own B Did) → HasFetched k at 4 (Ok tt) o p
      → HasRun k (Look at ∷ []) (Ok tt) o p
  run_look k at o p h = record {
    items = Fetched k o.regs at h.bytes ∷ [];
    adds = h.adds;
    ran = (h.bytes, [], h.many, refl, refl);
  }

  pub run_look_off : (k at : ℕ) (o p : Own B Did) → HasFetched k at 4 (Err refusals.Off) o p
      → HasRun k (Look at ∷ []) (Err faults.Off) o p
  run_look_off k at o p h = record {
    items = Unfetched at 4 faults.Off ∷ [];
    adds = h;
    ran = inl refl;
  }

  pub run_look_failed : (k at : ℕ) (o p : Own B Did) → HasFetched k at 4 (Err refusals.Failed) o p
      → HasRun k (Look at ∷ []) (Err faults.Failed) o p
  run_look_failed k at o p h = record {
    items = Unfetched at 4 faults.Failed ∷ [];
    adds = h;
    ran = inl refl;
  }

  pub run_ask : (k : ℕ) (r : Result (Unit {0}) NorFault) (o p : Own B Did) → Adds (asked r) o p
      → HasRun k (Ask ∷ []) r o p
  run_ask k (Ok u) o p h = record { items = []; adds = h; ran = refl }
  run_ask k (Err why) o p h = record { items = Denied why ∷ []; adds = h; ran = inl refl }

-- some moves are left of the whole: what they come to, the whole comes to
pub record Left {B : Type 0} (k : ℕ) (whole left : List Move) (o c : Own B Did) : Type 0 where
  pub goes : (r : Result (Unit {0}) NorFault) (p : Own B Did) → HasRun k left r c p
      → HasRun k whole r o p

module _ {B : Type 0} (k : ℕ) (whole : List Move) where
  pub left_all : (left : List Move) (o : Own B Did) → whole ≡ left → Left k whole left o o
  left_all left o is = record {
    goes = λ r p run. subst (λ (m : List Move). HasRun k m r o p) (sym is) run;
  }

  pub left_then : (left first rest : List Move) (o c d : Own B Did) → left ≡ first ++ rest
      → Left k whole left o c → HasRun k first (Ok tt) c d → Left k whole rest o d
  left_then left first rest o c d is l run = record {
    goes = λ r p more. l.goes r p (subst (λ (m : List Move). HasRun k m r c p) (sym is)
        (run_then k first rest r c d p run more));
  }

  pub left_stops : (left first rest : List Move) (why : NorFault) (o c d : Own B Did)
      → left ≡ first ++ rest → Left k whole left o c → HasRun k first (Err why) c d
      → HasRun k whole (Err why) o d
  left_stops left first rest why o c d is l run =
      l.goes (Err why) d (subst (λ (m : List Move). HasRun k m (Err why) c d) (sym is)
      (run_stops k first rest why c d run))

  pub left_none : (left : List Move) (o c : Own B Did) → left ≡ [] → Left k whole left o c
      → HasRun k whole (Ok tt) o c
  left_none left o c is l =
      l.goes (Ok tt) c (subst (λ (m : List Move). HasRun k m (Ok tt) c c) (sym is)
      (run_none k c c (keeps_same c)))

module _ {B : Type 0} where
  -- moves in a quiet period, and the look behind it
  pub period_ran : (k : ℕ) (ms : List Move) (probe looked : Option ℕ)
      (made r : Result (Unit {0}) NorFault) (o a b c d : Own B Did) → looked ≡ probe → Keeps o a
      → HasRun k ms made a b → Keeps b c → LooksBehind k looked made r c d
      → HasRun k (ms ++ looks probe) r o d
  period_ran k ms probe looked (Ok u) r o a b c d same x run y look =
      subst (λ (p : Option ℕ). HasRun k (ms ++ looks p) r o d) same
      (run_then k ms (looks looked) r o c d
      (run_after k ms (Ok tt) o a c x (run_before k ms (Ok tt) a b c run y)) look)
  period_ran k ms probe looked (Err why) r o a b c d same x run y look =
      subst (λ (z : Result (Unit {0}) NorFault). HasRun k (ms ++ looks probe) z o d) (sym look.0)
      (subst (λ (z : Own B Did). HasRun k (ms ++ looks probe) (Err why) o z) (sym look.1)
      (run_stops k ms (looks probe) why o c
      (run_after k ms (Err why) o a c x (run_before k ms (Err why) a b c run y))))

  -- reads that were answered left nothing
  pub asks_kept : (k n : ℕ) (o p : Own B Did) → HasRun k (asks n) (Ok tt) o p → Keeps o p
  asks_kept k n o p run =
      keeps_of o p (subst (λ (l : List Did). Adds l o p) (none n run.items run.ran) run.adds)
    where
      none : (n : ℕ) (items : List Did) → Follows k o.regs (asks n) items → items ≡ []
      none zero items f = f
      none (suc n) items f = none n items f

  -- the base stays
  pub base_same : (k : ℕ) (ms : List Move) (r : Result (Unit {0}) NorFault) (o p : Own B Did)
      → HasRun k ms r o p → p.base ≡ o.base
  base_same k ms r o p run = ap (λ (z : Own B Did). z.base) run.adds.is
