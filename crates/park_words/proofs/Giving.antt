-- What a crate above needs to give the value back: from how its own calls go on to what may be
-- given.
use Rattle.std.proofs.Common.{◌≡◌, ℕ, zero, suc, ◌∙◌, subst, refl, List, ◌++◌, Option, Some, None}
use Rattle.core_state.specs.declared.registers.Record.{Record}
use Rattle.core_state.specs.Sharing.{GoesOn}
use Rattle.duo_machine.specs.Machine.{other}
use Rattle.park_words.specs.declared.view.View.{View}
use Rattle.park_words.specs.Rule.{StandsBy}
use Rattle.park_words.specs.Told.{Work, Does, Known, Gives}

-- what the old value stands for, the new one stands for with these items, where the base has room
pub goes : {S B D : Type 0} (stands : S → B → List D → List D → Type 0)
    (room : B → ℕ → List D → Type 0) (x y : S) (items : List D) (base : Option B) (c : ℕ)
    (mine theirs : List D) → GoesOn stands room x y c items
    → ((b : B) → base ≡ Some b → room b c (mine ++ items))
    → StandsBy stands x base c mine theirs → StandsBy stands y base c (mine ++ items) theirs
goes stands room x y items None zero mine theirs on fits before = absurd before
goes stands room x y items None (suc c) mine theirs on fits before = absurd before
goes stands room x y items (Some b) zero mine theirs on fits before =
    on b mine theirs before (fits b refl)
goes stands room x y items (Some b) (suc c) mine theirs on fits before =
    on b mine theirs before (fits b refl)

-- a value that is known, with one event done to it and what went on for the seat's core, may be
-- given back
pub gives : {S B D : Type 0} (records : S → ℕ → Record) (runs : S → Option ℕ)
    (stands : S → B → List D → List D → Type 0) (room : B → ℕ → List D → Type 0)
    (x y : S) (v : View B D) (work : Work D) (c : ℕ) → c ≡ v.core → Known records runs stands x v
    → records y (other v.core) ≡ records x (other v.core)
    → Does work.event v (records y v.core) (runs y)
    → GoesOn stands room x y c work.items
    → ((b : B) → v.base ≡ Some b → room b v.core (v.share ++ work.items))
    → Gives records runs stands v y work
gives records runs stands room x y v work c core known beside does on fits = record {
  other_is = beside ∙ known.other_is;
  does = does;
  stands_by = goes stands room x y work.items v.base v.core v.share v.other_share
      (subst (λ n. GoesOn stands room x y n work.items) core on) fits known.stands_by;
}
