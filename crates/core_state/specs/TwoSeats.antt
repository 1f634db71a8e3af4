-- Two seats at one table: one view at the start, one a seat while both are out, and at the end one
-- for both beside a spent one.
use Rattle.std.specs.Prelude.{◌≡◌, ℕ, ◌⊎◌, List, [], ◌∷◌}
use mathlib.Core.Option.{Option}
use Rattle.atomic_table.specs.Table.{State}

module _ {S V : Type 0} where
  -- the seats are not dealt: there is this view alone, and words and slots are as at the start
  pub record IsStart
      (fresh : V) (Start : List ℕ → List (Option S) → Type 0) (s : State S V) : Type 0 where
    pub views : s.views ≡ fresh ∷ []
    pub there : Start s.words s.homes

  -- both seats are out: there are two views, each of one seat, and words, slots and views fit
  pub record IsPair
      (IsOne : V → Type 0) (Pair : List ℕ → List (Option S) → V → V → Type 0) (s : State S V)
      : Type 0 where
    pub left : V
    pub right : V
    pub views : s.views ≡ left ∷ right ∷ []
    pub ones : IsOne left × IsOne right
    pub there : Pair s.words s.homes left right

  -- one seat took in the other: its view is of both, the other one's is spent
  pub record IsEnd
      (spent : V) (IsBoth : V → Type 0) (End : List ℕ → List (Option S) → V → Type 0)
      (s : State S V) : Type 0 where
    pub joined : V
    pub views : (s.views ≡ joined ∷ spent ∷ []) ⊎ (s.views ≡ spent ∷ joined ∷ [])
    pub is_both : IsBoth joined
    pub there : End s.words s.homes joined

  -- the rule for two seats, over what holds of words, slots and views in each of the three
  abbrev pub HasTwoSeats :
      V → V → (V → Type 0) → (V → Type 0) → (List ℕ → List (Option S) → Type 0) →
      (List ℕ → List (Option S) → V → V → Type 0) → (List ℕ → List (Option S) → V → Type 0) →
      State S V → Type 0
  HasTwoSeats fresh spent IsOne IsBoth Start Pair End s =
      IsStart fresh Start s ⊎ (IsPair IsOne Pair s ⊎ IsEnd spent IsBoth End s)
