-- What a device tells while it makes a list of steps: after all of them, or left at some moment.
use Rattle.std.specs.Prelude.{◌≡◌, ℕ, List, [], ◌∷◌, ◌++◌, Option, Some, None}
use Rattle.std.proofs.Common.{sym, ◌∙◌, ap, subst}
use Rattle.nor_device.specs.declared.step.Step.{Step}
use Rattle.nor_device.specs.Make.{IsAfter, IsTornBy}
use Rattle.nor_device.proofs.FlashLaws.{after_steps_append}
use Rattle.crash_images.specs.Crash.{IsAfterAll, IsLeftOf}
use Rattle.crash_images.proofs.LeftLaws.{left_begin, left_torn, left_more, left_front, left_back}

-- no step was begun
pub left_of_none : (steps : List Step) (old new : Option (List ℕ)) → new ≡ old
    → IsLeftOf steps old new
left_of_none steps None new same = tt
left_of_none steps (Some flash) new same = (flash, same, left_begin flash steps)

-- the first step was torn
pub left_of_torn : (step : Step) (steps : List Step) (old new : Option (List ℕ))
    → IsTornBy step old new → IsLeftOf (step ∷ steps) old new
left_of_torn step steps None new torn = tt
left_of_torn step steps (Some flash) new torn =
    (torn.0, torn.1, left_torn flash step steps torn.0 torn.2)

-- the first step is whole, and the others were left so
pub left_of_more : (step : Step) (steps : List Step) (old mid new : Option (List ℕ))
    → IsAfter step old mid → IsLeftOf steps mid new → IsLeftOf (step ∷ steps) old new
left_of_more step steps None mid new one more = tt
left_of_more step steps (Some flash) mid new one more =
    let on = subst (λ (m : Option (List ℕ)). IsLeftOf steps m new) one more in
    (on.0, on.1, left_more flash step steps on.0 on.2)

-- some steps were left so, and others were to follow
pub left_of_front : (front back : List Step) (old new : Option (List ℕ)) → IsLeftOf front old new
    → IsLeftOf (front ++ back) old new
left_of_front front back None new left = tt
left_of_front front back (Some flash) new left =
    (left.0, left.1, left_front flash front back left.0 left.2)

-- some steps are whole, and the others were left so
pub left_of_back : (front back : List Step) (old mid new : Option (List ℕ))
    → IsAfterAll front old mid → IsLeftOf back mid new → IsLeftOf (front ++ back) old new
left_of_back front back None mid new all left = tt
left_of_back front back (Some flash) mid new all left =
    let on = subst (λ (m : Option (List ℕ)). IsLeftOf back m new) all left in
    (on.0, on.1, left_back flash front back on.0 on.2)

-- without a step the bytes are the same
pub after_none : (old new : Option (List ℕ)) → new ≡ old → IsAfterAll [] old new
after_none None new same = tt
after_none (Some flash) new same = same

-- one step first, and then the others
pub after_more : (step : Step) (steps : List Step) (old mid new : Option (List ℕ))
    → IsAfter step old mid → IsAfterAll steps mid new → IsAfterAll (step ∷ steps) old new
after_more step steps None mid new one more = tt
after_more step steps (Some flash) mid new one more =
    subst (λ (m : Option (List ℕ)). IsAfterAll steps m new) one more

-- first some steps, and then the others
pub after_both : (front back : List Step) (old mid new : Option (List ℕ)) → IsAfterAll front old mid
    → IsAfterAll back mid new → IsAfterAll (front ++ back) old new
after_both front back None mid new one two = tt
after_both front back (Some flash) mid new one two =
    subst (λ (m : Option (List ℕ)). IsAfterAll back m new) one two
    ∙ ap (λ (f : List ℕ). Some f) (sym (after_steps_append flash front back))
