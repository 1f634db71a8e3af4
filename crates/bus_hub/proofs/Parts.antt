-- What a core knows by its own share: its part of the duty, and its step that runs.
use Rattle.std.specs.Prelude.{◌≡◌, ◌≢◌, ◌==◌, ◌⊎◌, ℕ, Bool, true, false, cond, List, [], ◌∷◌, ◌++◌, refl, Option, Some, None}
use Rattle.std.proofs.Common.{◌∙◌, sym, ap, subst, inl, inr, eqb}
use Rattle.std.proofs.lemmas.Bool.Decides.{eqb_tells}
use Rattle.nor_device.specs.declared.step.Step.{Step}
use Rattle.nor_device.specs.declared.nor.StepEnd.{StepEnd}
use Rattle.nor_device.specs.declared.nor.NorFault.{NorFault}
use Rattle.nor_device.specs.Torn.{Torn}
use Rattle.bus_hub.specs.declared.did.Running.{Running}
use Rattle.bus_hub.specs.declared.did.Did.{Did}
use Rattle.bus_hub.specs.declared.did.Did.TheVariants.{Opened, Closed, Broken, Fetched, Noted, Denied, Mapping, Unmapping, Missed, Masked, Unfetched}
use Rattle.bus_hub.specs.Log.{Item, of_core, run_of, State, Runs, Rule, change, made_whole, reached}
use Rattle.bus_hub.specs.Shares.{Begun, begun_of, own_begun, steps_of, open_after, made_by, open_from, made_from, moved_by}
use Rattle.bus_hub.proofs.Logs.{Keeps}

-- steps made one after the other
pub moved_by-append : {P : Type 0} (moved : P → Step → P) (p : P) (xs ys : List Step)
    → moved_by moved p (xs ++ ys) ≡ moved_by moved (moved_by moved p xs) ys
moved_by-append moved p [] ys = refl
moved_by-append moved p (x ∷ xs) ys = moved_by-append moved (moved p x) xs ys

-- a core is itself
same_core : (c : ℕ) → (c == c) ≡ true
same_core c = elim (eqb_tells c c) [ inl is ↦ is.0 | inr other ↦ absurd (other.1 refl) ]

other_core : (o c : ℕ) → o ≢ c → (o == c) ≡ false
other_core o c apart = elim (eqb_tells o c) [ inl is ↦ absurd (apart is.1) | inr other ↦ other.0 ]

-- the own step that runs
own_is : (c : ℕ) (run : Running) → run.core ≡ c → own_begun c (Some run) ≡ begun_of (Some run)
own_is c run at =
    let e : (run.core == c) ≡ true = ap (λ (n : ℕ). n == c) at ∙ same_core c in
    rw e refl

own_none : (c : ℕ) (run : Running) → run.core ≢ c → own_begun c (Some run) ≡ None
own_none c run apart = rw (other_core run.core c apart) refl

module _ {S K P : Type 0}
    (may_end : S → ℕ → StepEnd → Type 0) (may_tear : S → ℕ → List ℕ → Step → List ℕ → Type 0)
    (may_refuse : S → ℕ → NorFault → Type 0) (must_refuse : S → ℕ → Type 0)
    (part : K → ℕ → P) (grants : P → Step → Type 0) (moved : P → Step → P)
    (after : K → ℕ → Step → K)
    (own : (duty : K) (c : ℕ) (step : Step) → part (after duty c step) c ≡ moved (part duty c) step)
    (other : (duty : K) (c o : ℕ) (step : Step) → c ≢ o → part (after duty o step) c ≡ part duty c)
  where
    abbrev Obeys : S → State K → ℕ → Did → Type 0
    Obeys = Rule may_end may_tear may_refuse must_refuse part grants after

    -- what an item makes of the part and of the step that runs, of a core
    pub record Knows (c : ℕ) (s t : State K) (opens : Option Begun) (makes : List Step)
        : Type 0 where
      pub open_is : own_begun c t.running ≡ opens
      pub part_is : part t.duty c ≡ moved_by moved (part s.duty c) makes

    closed_own : (s : State K) (c : ℕ) (Q : Running → Type 0) (o : Option Running) → Runs c Q o
        → part (made_whole after s c o).duty c
        ≡ moved_by moved (part s.duty c) (steps_of (own_begun c o))
    closed_own s c Q None runs = absurd runs
    closed_own s c Q (Some run) runs =
        own s.duty c run.step
        ∙ ap (λ (b : Option Begun). moved_by moved (part s.duty c) (steps_of b))
        (sym (own_is c run runs.0))

    -- an item of the core
    own_item : (set : S) (s : State K) (c : ℕ) (did : Did) → Obeys set s c did
        → Knows c s (change after s c did) (open_after (own_begun c s.running) did)
        (made_by (own_begun c s.running) did)
    own_item set s c (Opened k regs step) rule = record {
      open_is = own_is c (run_of c k step) refl;
      part_is = refl;
    }
    own_item set s c (Closed k regs) rule = record {
      open_is = refl;
      part_is = closed_own s c (λ run. run.k ≡ k) s.running rule.0;
    }
    own_item set s c (Broken k regs why left) rule = record { open_is = refl; part_is = refl }
    own_item set s c (Fetched k regs at bytes) rule = record { open_is = refl; part_is = refl }
    own_item set s c (Noted k regs act) rule = record { open_is = refl; part_is = refl }
    own_item set s c (Denied why) rule = record { open_is = refl; part_is = refl }
    own_item set s c (Mapping flash_page n space answer) rule = record {
      open_is = refl;
      part_is = refl;
    }
    own_item set s c (Unmapping at answer) rule = record { open_is = refl; part_is = refl }
    own_item set s c (Missed at len) rule = record { open_is = refl; part_is = refl }
    own_item set s c (Masked at len) rule = record { open_is = refl; part_is = refl }
    own_item set s c (Unfetched at len why) rule = record { open_is = refl; part_is = refl }

    closed_other : (s : State K) (c o : ℕ) → c ≢ o → (Q : Running → Type 0)
        (runs : Option Running) → Runs o Q runs
        → (None ≡ own_begun c runs) × (part (made_whole after s o runs).duty c ≡ part s.duty c)
    closed_other s c o apart Q None runs = absurd runs
    closed_other s c o apart Q (Some run) runs = (
      sym (own_none c run (λ at. apart (sym at ∙ runs.0))),
      other s.duty c o run.step apart,
    )

    idle_own : (c : ℕ) (o : Option Running) → o ≡ None → None ≡ own_begun c o
    idle_own c o idle = sym (ap (λ (r : Option Running). own_begun c r) idle)

    -- an item of the other core
    other_item : (set : S) (s : State K) (c o : ℕ) (did : Did) → c ≢ o → Obeys set s o did
        → Knows c s (change after s o did) (own_begun c s.running) []
    other_item set s c o (Opened k regs step) apart rule = record {
      open_is = own_none c (run_of o k step) (λ at. apart (sym at)) ∙ idle_own c s.running rule.0;
      part_is = refl;
    }
    other_item set s c o (Closed k regs) apart rule =
        let f = closed_other s c o apart (λ run. run.k ≡ k) s.running rule.0 in
        record { open_is = f.0; part_is = f.1 }
    other_item set s c o (Broken k regs why left) apart rule =
        let f = closed_other s c o apart (λ run. (run.k ≡ k) × Torn s.flash run.step left
        × may_tear set s.steps s.flash run.step left) s.running rule.0 in
        record { open_is = f.0; part_is = refl }
    other_item set s c o (Fetched k regs at bytes) apart rule = record {
      open_is = refl;
      part_is
          = refl;
    }
    other_item set s c o (Noted k regs act) apart rule = record { open_is = refl; part_is = refl }
    other_item set s c o (Denied why) apart rule = record { open_is = refl; part_is = refl }
    other_item set s c o (Mapping flash_page n space answer) apart rule = record {
      open_is = refl;
      part_is = refl;
    }
    other_item set s c o (Unmapping at answer) apart rule = record {
      open_is = refl;
      part_is =
          refl;
    }
    other_item set s c o (Missed at len) apart rule = record { open_is = refl; part_is = refl }
    other_item set s c o (Masked at len) apart rule = record { open_is = refl; part_is = refl }
    other_item set s c o (Unfetched at len why) apart rule = record { open_is = refl; part_is = refl }

    -- one item, and then the others
    joined : (c : ℕ) (s mid last : State K) (did : Did) (share : List Did) (b : Bool)
        (opens : Option Begun) (makes : List Step) → Knows c s mid opens makes
        → open_from opens share ≡ open_from (own_begun c s.running) (cond b (did ∷ share) share)
        → makes ++ made_from opens share
        ≡ made_from (own_begun c s.running) (cond b (did ∷ share) share)
        → Knows c mid last (open_from (own_begun c mid.running) share)
        (made_from (own_begun c mid.running) share)
        → Knows c s last (open_from (own_begun c s.running) (cond b (did ∷ share) share))
        (made_from (own_begun c s.running) (cond b (did ∷ share) share))
    joined c s mid last did share b opens makes now opens_is makes_is later = record {
      open_is = later.open_is
          ∙ ap (λ (o : Option Begun). open_from o share) now.open_is ∙ opens_is;
      part_is = later.part_is
          ∙ ap (λ (o : Option Begun). moved_by moved (part mid.duty c) (made_from o share))
          now.open_is
          ∙ ap (λ (p : P). moved_by moved p (made_from opens share)) now.part_is
          ∙ sym (moved_by-append moved (part s.duty c) makes (made_from opens share))
          ∙ ap (λ (steps : List Step). moved_by moved (part s.duty c) steps) makes_is;
    }

    -- an item of either core, and then the others
    by_core : (set : S) (s last : State K) (c : ℕ) (x : Item) (share : List Did)
        → Obeys set s x.core x.did
        → Knows c (change after s x.core x.did) last
        (open_from (own_begun c (change after s x.core x.did).running) share)
        (made_from (own_begun c (change after s x.core x.did).running) share)
        → ((eqb x.core c ≡ true) × (x.core ≡ c)) ⊎ ((eqb x.core c ≡ false) × (x.core ≢ c))
        → Knows c s last
        (open_from (own_begun c s.running) (cond (x.core == c) (x.did ∷ share) share))
        (made_from (own_begun c s.running) (cond (x.core == c) (x.did ∷ share) share))
    by_core set s last c x share rule later (inl at) =
        let mine : Knows c s (change after s x.core x.did) (open_after (own_begun c s.running)
        x.did)
        (made_by (own_begun c s.running) x.did) =
        subst (λ (n : ℕ). Knows c s (change after s n x.did) (open_after (own_begun c s.running)
        x.did)
        (made_by (own_begun c s.running) x.did)) (sym at.1)
        (own_item set s c x.did (subst (λ (n : ℕ). Obeys set s n x.did) at.1 rule)) in
        let there : Knows c s last
        (open_from (own_begun c s.running) (x.did ∷ share))
        (made_from (own_begun c s.running) (x.did ∷ share)) =
        joined c s (change after s x.core x.did) last x.did share true
        (open_after (own_begun c s.running) x.did) (made_by (own_begun c s.running) x.did) mine refl
        refl later in
        rw at.0 there
    by_core set s last c x share rule later (inr at) =
        let there : Knows c s last (open_from (own_begun c s.running) share)
        (made_from (own_begun c s.running) share) =
        joined c s (change after s x.core x.did) last x.did share false (own_begun c s.running) []
        (other_item set s c x.core x.did (λ e. at.1 (sym e)) rule) refl refl later in
        rw at.0 there

    -- by the core's share of a log
    pub known_by_log : (set : S) (s : State K) (c : ℕ) (log : List Item)
        → Keeps may_end may_tear may_refuse must_refuse part grants after set s log
        → Knows c s (reached after s log) (open_from (own_begun c s.running) (of_core c log))
        (made_from (own_begun c s.running) (of_core c log))
    known_by_log set s c [] all = record { open_is = refl; part_is = refl }
    known_by_log set s c (x ∷ log) all =
        by_core set s (reached after (change after s x.core x.did) log) c x (of_core c log) all.1
        (known_by_log set (change after s x.core x.did) c log all.2) (eqb_tells x.core c)
