-- One more action.
use Rattle.std.proofs.Common.{◌≡◌, ◌≤◌, ◌<◌, ℕ, ◌+◌, List, [], ◌∷◌, ◌++◌, length, length-append, sym, ap, ◌∙◌, add_assoc, arith}
use Rattle.std.specs.List.{AllByRecursion}
use Rattle.core_script.specs.declared.action.Action.{Action}
use Rattle.core_script.specs.Action.{IsInBounds, IsWithin, sectors_in, sectors_in_all}

-- the sectors of actions, and of others behind them
pub sectors_in_all-append : (actions others : List Action)
    → sectors_in_all (actions ++ others) ≡ sectors_in_all actions + sectors_in_all others
sectors_in_all-append [] others = omega arith
sectors_in_all-append (first ∷ actions) others =
    ap (λ n. sectors_in first + n) (sectors_in_all-append actions others)
    ∙ sym (add_assoc (sectors_in first) (sectors_in_all actions) (sectors_in_all others))

-- the sectors of actions and one more
pub sectors_in_all-snoc : (actions : List Action) (action : Action)
    → sectors_in_all (actions ++ action ∷ []) ≡ sectors_in_all actions + sectors_in action
sectors_in_all-snoc actions action = omega (arith, sectors_in_all-append actions (action ∷ []))

-- the bounds of actions and one more
bounds-snoc : (actions : List Action) (action : Action) → AllByRecursion IsInBounds actions
    → IsInBounds action → AllByRecursion IsInBounds (actions ++ action ∷ [])
bounds-snoc [] action all one = (one, tt)
bounds-snoc (first ∷ actions) action all one = (all.0, bounds-snoc actions action all.1 one)

-- a script stays within its limits with one more action
pub within-snoc : (actions next : List Action) (action : Action) (count more : ℕ)
    → IsWithin actions count → IsInBounds action → next ≡ actions ++ action ∷ []
    → more ≡ sectors_in action → length actions < 4096 → count + more ≤ 65536
    → IsWithin next (count + more)
within-snoc actions next action count more within one is counted few most =
    let long : length next ≡ length actions + 1 = ap length is ∙ length-append actions (action ∷ []) in
    let sum : count + more ≡ sectors_in_all next =
    ap (λ n. n + more) within.counted ∙ ap (λ n. sectors_in_all actions + n) counted
    ∙ sym (sectors_in_all-snoc actions action) ∙ sym (ap sectors_in_all is) in
    record {
      bounds = rw is (bounds-snoc actions action within.bounds one);
      few = omega (arith, long, few);
      counted = sum;
      most = most;
    }
