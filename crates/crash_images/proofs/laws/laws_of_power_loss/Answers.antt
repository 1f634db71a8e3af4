use Rattle.std.proofs.Common.{List, [], ◌∷◌, ℕ, sym, subst, inl, inr}
use Rattle.crash_images.specs.Crash.{LeftAfter}
use Rattle.crash_images.proofs.LeftLaws.{left_begin, left_end, left_none, left_torn, left_more, left_cases, left_front, left_back, left_append, left_small}
use Rattle.crash_images.proofs.AgreesLaws.{left_agrees}
use Rattle.crash_images.proofs.laws.laws_of_power_loss.Goals as goal

-- with no step the flash stays
pub returns-clause-none : goal.returns-clause-none
returns-clause-none c =
    λ flash left. (
      λ after. left_none flash left after,
      λ is. subst (λ (f : List ℕ). LeftAfter flash [] f) (sym is) (left_begin flash []),
    )

-- before the first step, within it, or after it
pub returns-clause-first : goal.returns-clause-first
returns-clause-first c = λ flash step steps left. (
  λ after. left_cases flash step steps left after,
  λ at. elim at [
    | inl is ↦ subst (λ (f : List ℕ). LeftAfter flash (step ∷ steps) f) (sym is)
        (left_begin flash (step ∷ steps))
    | inr more ↦ elim more [
      | inl torn ↦ left_torn flash step steps left torn
      | inr later ↦ left_more flash step steps
          left later
    ]
  ],
)

-- within the front, or after it
pub returns-clause-front_and_back : goal.returns-clause-front_and_back
returns-clause-front_and_back c =
    λ flash front back left. (
      λ after. left_append flash front back left after,
      λ at. elim at [
        | inl in_front ↦ left_front flash front back left in_front
        | inr later ↦
            left_back flash front back left later
      ],
    )

pub returns-clause-last : goal.returns-clause-last
returns-clause-last c = left_end

pub returns-clause-outside : goal.returns-clause-outside
returns-clause-outside c = left_agrees

pub returns-clause-bytes : goal.returns-clause-bytes
returns-clause-bytes c = left_small
