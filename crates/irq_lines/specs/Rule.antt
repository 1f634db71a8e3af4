-- What the two pending words and the views stand for.
use Rattle.std.specs.Prelude.{◌≡◌, ◌<◌, ◌+◌, ℕ, List, [], ◌∷◌, slice_index}
use Rattle.std.specs.Int.{bit_at}
use mathlib.Core.Option.{Option}
use Rattle.atomic_table.specs.Table.{State}
use Rattle.core_state.specs.TwoSeats.{IsPair, IsEnd, HasTwoSeats}
use Rattle.irq_lines.specs.declared.view.Entry.{Entry}
use Rattle.irq_lines.specs.declared.view.View.{View}
use Rattle.irq_lines.specs.Views.{fresh, spent, IsOne, IsBoth}
use Rattle.irq_lines.specs.Story.{Apart, Story, made, raised, served, Balance}

module _ {S : Type 0} where
  -- the seats are not dealt yet: nothing is pending
  abbrev pub Start : List ℕ → List (Option S) → Type 0
  Start words homes = words ≡ 0 ∷ 0 ∷ []

  -- both seats are out: one run leads to the words, of which each has seen a beginning
  pub record Pair (words : List ℕ) (homes : List (Option S)) (left right : View) : Type 0 where
    pub left_is : (left.core ≡ 0) × (left.other ≡ 1)
    pub right_is : (right.core ≡ 1) × (right.other ≡ 0)
    pub story : Story words 0 1 left.seen right.seen

  -- one seat took in the other: one run leads to the words, of which it knows what both have seen
  pub record Joined (words : List ℕ) (homes : List (Option S)) (both : View) : Type 0 where
    pub apart : Apart both.core both.other
    pub story : Story words both.core both.other both.seen both.other_seen

  -- there are two views, of core 0 and core 1
  abbrev pub Paired : State S View → Type 0
  Paired s = IsPair IsOne Pair s

  -- there is one view for both cores, beside a spent one
  abbrev pub Ended : State S View → Type 0
  Ended s = IsEnd spent IsBoth Joined s

  -- the rule: one view for both cores at the start, one for each core, and one for both at the end
  abbrev pub Ruled : State S View → Type 0
  Ruled s = HasTwoSeats fresh spent IsOne IsBoth Start Pair Joined s

-- line l of core k balances, over what core c and core o have seen, where the words are these
abbrev pub BalancesAt :
    List ℕ → ℕ → ℕ → List Entry → List Entry → ℕ → ℕ → Type 0
BalancesAt words c o mine theirs k l =
    Balance (made c mine k l + made o theirs k l) (raised c mine k l + raised o theirs k l)
    (served c mine k l + served o theirs k l) (bit_at (slice_index words k) l)

-- whatever state meets the rule with both seats out, or with one that took in the other, each line
-- balances over what the seats have seen
abbrev pub EveryStateBalances : Type 0 → Type 0
EveryStateBalances S =
    ((s : State S View) (p : Paired s) (k l : ℕ) → k < 2 → l < 32 →
    BalancesAt s.words p.left.core p.right.core p.left.seen p.right.seen k l)
    × ((s : State S View) (j : Ended s) (k l : ℕ) → k < 2 → l < 32 →
    BalancesAt s.words j.joined.core j.joined.other j.joined.seen j.joined.other_seen k l)
