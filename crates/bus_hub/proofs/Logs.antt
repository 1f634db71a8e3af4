-- The log, item by item and in two parts.
use Rattle.std.specs.Prelude.{◌≡◌, ◌==◌, ℕ, ◌<◌, Bool, true, false, cond, List, [], ◌∷◌, ◌++◌, refl}
use Rattle.std.proofs.Common.{◌∙◌, ap}
use Rattle.nor_device.specs.declared.step.Step.{Step}
use Rattle.nor_device.specs.declared.nor.StepEnd.{StepEnd}
use Rattle.nor_device.specs.declared.nor.NorFault.{NorFault}
use Rattle.bus_hub.specs.declared.did.Did.{Did}
use Rattle.bus_hub.specs.Log.{Item, of_core, State, change, reached, Rule, Ruled}

-- what a core did, in two parts of a log
cond_append : (b : Bool) (x : Did) (xs ys : List Did)
    → cond b (x ∷ (xs ++ ys)) (xs ++ ys) ≡ cond b (x ∷ xs) xs ++ ys
cond_append true x xs ys = refl
cond_append false x xs ys = refl

pub of_core-append : (c : ℕ) (xs ys : List Item) → of_core c (xs ++ ys) ≡ of_core c xs
    ++ of_core c ys
of_core-append c [] ys = refl
of_core-append c (x ∷ xs) ys =
    ap (λ (later : List Did). cond (x.core == c) (x.did ∷ later) later) (of_core-append c xs ys)
    ∙ cond_append (x.core == c) x.did (of_core c xs) (of_core c ys)

module _ {K : Type 0} (after : K → ℕ → Step → K) where
  pub reached-append : (s : State K) (xs ys : List Item)
      → reached after s (xs ++ ys) ≡ reached after (reached after s xs) ys
  reached-append s [] ys = refl
  reached-append s (x ∷ xs) ys = reached-append (change after s x.core x.did) xs ys

module _ {S K P : Type 0}
    (may_end : S → ℕ → StepEnd → Type 0) (may_tear : S → ℕ → List ℕ → Step → List ℕ → Type 0)
    (may_refuse : S → ℕ → NorFault → Type 0) (must_refuse : S → ℕ → Type 0)
    (part : K → ℕ → P) (grants : P → Step → Type 0) (after : K → ℕ → Step → K) where
  abbrev pub Keeps : S → State K → List Item → Type 0
  Keeps = Ruled may_end may_tear may_refuse must_refuse part grants after

  pub ruled-append : (set : S) (s : State K) (xs ys : List Item) → Keeps set s xs
      → Keeps set (reached after s xs) ys → Keeps set s (xs ++ ys)
  ruled-append set s [] ys first later = later
  ruled-append set s (x ∷ xs) ys first later =
      (first.0, first.1, ruled-append set (change after s x.core x.did) xs ys first.2 later)

  pub ruled-front : (set : S) (s : State K) (xs ys : List Item) → Keeps set s (xs ++ ys)
      → Keeps set s xs
  ruled-front set s [] ys all = tt
  ruled-front set s (x ∷ xs) ys all =
      (all.0, all.1, ruled-front set (change after s x.core x.did) xs ys all.2)

  pub ruled-back : (set : S) (s : State K) (xs ys : List Item) → Keeps set s (xs ++ ys)
      → Keeps set (reached after s xs) ys
  ruled-back set s [] ys all = all
  ruled-back set s (x ∷ xs) ys all = ruled-back set (change after s x.core x.did) xs ys all.2

  -- what each item keeps, a log keeps
  pub kept : (set : S) (Q : State K → Type 0)
      → ((s : State K) (c : ℕ) (did : Did) → c < 2
      → Rule may_end may_tear may_refuse must_refuse part grants after set s c did → Q s
      → Q (change after s c did))
      → (s : State K) (log : List Item) → Keeps set s log → Q s → Q (reached after s log)
  kept set Q step s [] all holds = holds
  kept set Q step s (x ∷ log) all holds =
      kept set Q step (change after s x.core x.did) log all.2
      (step s x.core x.did all.0 all.1 holds)
