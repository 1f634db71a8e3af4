-- What the two cores did to a value, as one of them sees it.
use Rattle.std.specs.Prelude.{ℕ, ◌++◌, List}
use Prim.Native.Nat.{zero, suc}

-- a relation of what core 0 and core 1 did, read by a core: what it did itself comes first
abbrev pub in_order : {D : Type 0} → (List D → List D → Type 0) → ℕ → List D → List D → Type 0
in_order R zero mine theirs = R mine theirs
in_order R (suc c) mine theirs = R theirs mine

-- what the old value stands for, the new one stands for once these items are added to what a core
-- did, wherever the base has room for them
abbrev pub GoesOn :
    {V B D : Type 0} → (V → B → List D → List D → Type 0) → (B → ℕ → List D → Type 0) →
    V → V → ℕ → List D → Type 0
GoesOn {V} {B} {D} stands room old new c items =
    (b : B) (mine theirs : List D) →
    in_order (stands old b) c mine theirs →
    room b c (mine ++ items) →
    in_order (stands new b) c (mine ++ items) theirs
