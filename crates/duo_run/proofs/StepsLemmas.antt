-- Lists of items by the steps that they end whole, whatever was open before.
use Rattle.std.proofs.Common.{◌≡◌, ℕ, ◌+◌, ◌*◌, ◌≤◌, List, [], ◌∷◌, ◌++◌, length, Option, None, inl, inr, refl, sym, ap, ◌∙◌, append_assoc, arith}
use Rattle.core_state.specs.declared.registers.Regs.{Regs}
use Rattle.nor_device.specs.declared.step.Step.{Step}
use Rattle.nor_device.specs.declared.nor.NorFault.{NorFault}
use Rattle.bus_hub.specs.declared.did.Did.{Did}
use Rattle.bus_hub.specs.Hub.{needs, byte_needs}
use Rattle.bus_hub.specs.Shares.{Begun, open_from, made_from}
use Rattle.flash_ops.specs.Moves.{makes, Follows, Stops}
use Rattle.flash_ops.proofs.Runs.{byte_needs_follows, bytes_for_makes, entries_for_makes, made_follows, made_from-append, needs_follows, steps_of_makes}
use Rattle.duo_run.specs.Worker.{IsFirstPart, regs_by, regs_by_item}

-- ---- steps

-- the items end these steps whole, whatever was open before
pub record MakesSteps (steps : List Step) (items : List Did) : Type 0 where
  pub makes : (o : Option Begun) → made_from o items ≡ steps

-- nothing ends no step
pub makes_none : (items : List Did) → items ≡ [] → MakesSteps [] items
makes_none items is =
    record { makes = λ o. ap (λ (s : List Did). made_from o s) is }

-- one list behind another
pub makes_then : (s t : List Step) (a b : List Did) → MakesSteps s a → MakesSteps t b
    → MakesSteps (s ++ t) (a ++ b)
makes_then s t a b x y = record {
  makes = λ o. made_from-append o a b
      ∙ (ap (λ (u : List Step). u ++ made_from (open_from o a) b) (x.makes o)
      ∙ ap (λ (u : List Step). s ++ u) (y.makes (open_from o a)));
}

-- behind a share
pub made_behind : (share items : List Did) (steps : List Step) → MakesSteps steps items
    → made_from None (share ++ items) ≡ made_from None share ++ steps
made_behind share items steps m =
    made_from-append None share items
    ∙ ap (λ (u : List Step). made_from None share ++ u) (m.makes (open_from None share))

-- steps that were made
pub follows_makes : (k : ℕ) (regs : Regs) (steps : List Step) (items : List Did)
    → Follows k regs (makes steps) items → MakesSteps steps items
follows_makes k regs steps items f = record {
  makes = λ o. made_follows k regs o (makes steps) items f ∙ steps_of_makes steps;
}

-- a first part of the steps, the rest of which was not made
pub record MakesSome (steps : List Step) (items : List Did) : Type 0 where
  pub first : List Step
  pub makes : MakesSteps first items
  pub part : IsFirstPart first steps

some_none : (steps : List Step) (items : List Did) → MakesSteps [] items → MakesSome steps items
some_none steps items m =
    record { first = []; makes = m; part = record { later = steps; is = refl } }

pub stops_makes : (k : ℕ) (regs : Regs) (why : NorFault) (steps : List Step) (items : List Did)
    → Stops k regs why (makes steps) items → MakesSome steps items
stops_makes k regs why [] items s = absurd s
stops_makes k regs why (step ∷ steps) items (inl is) =
    some_none (step ∷ steps) items
    (record { makes = λ o. ap (λ (s : List Did). made_from o s) is })
stops_makes k regs why (step ∷ steps) items (inr (inl (left, is))) =
    some_none (step ∷ steps) items
    (record { makes = λ o. ap (λ (s : List Did). made_from o s) is })
stops_makes k regs why (step ∷ steps) items (inr (inr (rest, is, s))) =
    let m = stops_makes k regs why steps rest s in record {
      first = step ∷ m.first;
      makes = record {
        makes = λ o. ap (λ (s : List Did). made_from o s) is
            ∙ ap (λ (s : List Step). step ∷ s) (m.makes.makes None);
      };
      part = record {
        later = m.part.later;
        is = ap (λ (s : List Step). step ∷ s) m.part.is;
      };
    }

-- steps of one list and some of another behind it
pub makes_then_some : (s t : List Step) (a b : List Did) → MakesSteps s a → MakesSome t b
    → MakesSome (s ++ t) (a ++ b)
makes_then_some s t a b x y = record {
  first = s ++ y.first;
  makes = makes_then s y.first a b x y.makes;
  part = record {
    later = y.part.later;
    is = ap (λ (u : List Step). s ++ u) y.part.is ∙ sym (append_assoc s y.first y.part.later);
  };
}

-- some of one list are some of a longer one
pub some_of_more : (s t : List Step) (a : List Did) → MakesSome s a → MakesSome (s ++ t) a
some_of_more s t a x = record {
  first = x.first;
  makes = x.makes;
  part = record {
    later = x.part.later ++ t;
    is = ap (λ (u : List Step). u ++ t) x.part.is ∙ append_assoc x.first x.part.later t;
  };
}

-- ---- registers

pub regs_by-append : (regs : Regs) (a b : List Did)
    → regs_by regs (a ++ b) ≡ regs_by (regs_by regs a) b
regs_by-append regs [] b = refl
regs_by-append regs (did ∷ a) b = regs_by-append (regs_by_item regs did) a b

-- steps leave the registers
pub follows_regs : (k : ℕ) (own regs : Regs) (steps : List Step) (items : List Did)
    → Follows k own (makes steps) items → regs_by regs items ≡ regs
follows_regs k own regs [] items f = ap (regs_by regs) f
follows_regs k own regs (step ∷ steps) items (rest, is, f) =
    ap (regs_by regs) is ∙ follows_regs k own regs steps rest f

pub stops_regs : (k : ℕ) (own regs : Regs) (why : NorFault) (steps : List Step)
    (items : List Did) → Stops k own why (makes steps) items → regs_by regs items ≡ regs
stops_regs k own regs why [] items s = absurd s
stops_regs k own regs why (step ∷ steps) items (inl is) = ap (regs_by regs) is
stops_regs k own regs why (step ∷ steps) items (inr (inl (left, is))) = ap (regs_by regs) is
stops_regs k own regs why (step ∷ steps) items (inr (inr (rest, is, s))) =
    ap (regs_by regs) is ∙ stops_regs k own regs why steps rest s

-- ---- room

-- what steps need
pub follows_needs : (k : ℕ) (regs : Regs) (steps : List Step) (items : List Did)
    → Follows k regs (makes steps) items
    → (needs items ≤ 2 * length steps) × (byte_needs items ≡ 0)
follows_needs k regs steps items f =
    let a = needs_follows k regs (makes steps) items f ∙ entries_for_makes steps in
    let b = byte_needs_follows k regs (makes steps) items f ∙ bytes_for_makes steps in
    (omega arith, b)

pub stops_needs : (k : ℕ) (regs : Regs) (why : NorFault) (steps : List Step) (items : List Did)
    → Stops k regs why (makes steps) items
    → (needs items ≤ 2 * length steps) × (byte_needs items ≡ 0)
stops_needs k regs why [] items s = absurd s
stops_needs k regs why (step ∷ steps) items (inl is) =
    let a : needs items ≡ 0 = ap needs is in
    let b : byte_needs items ≡ 0 = ap byte_needs is in (omega arith, b)
stops_needs k regs why (step ∷ steps) items (inr (inl (left, is))) =
    let a : needs items ≡ 2 = ap needs is in
    let b : byte_needs items ≡ 0 = ap byte_needs is in (omega arith, b)
stops_needs k regs why (step ∷ steps) items (inr (inr (rest, is, s))) =
    let a : needs items ≡ 2 + (0 + needs rest) = ap needs is in
    let b : byte_needs items ≡ 0 + (0 + byte_needs rest) = ap byte_needs is in
    let both = stops_needs k regs why steps rest s in
    let c = both.0 in
    let d = both.1 in (omega arith, omega arith)
