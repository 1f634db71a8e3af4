-- The order of the applications, a step at a time.
use Rattle.std.proofs.Common.{◌≡◌, ℕ, zero, suc, ◌+◌, ◌-◌, ◌<◌, List, [], ◌∷◌, ◌++◌, length, refl, ap, ◌∙◌, arith}
use Rattle.std.proofs.lemmas.List.{append_assoc}
use Rattle.partition_table.specs.declared.app.App.{App}
use Rattle.partition_table.specs.declared.app.App.TheVariants.{Ota}
use Rattle.boot_select.specs.Candidates.{down, up}

-- the slots below this one: the next lower one, and those below it
pub down-step : (slot : ℕ) → 0 < slot → down slot ≡ Ota (slot - 1) ∷ down (slot - 1)
unfolding down
down-step slot some = let next : slot ≡ suc (slot - 1) = omega arith in ap down next

-- the slots from one on up to another
pub up-step : (slot end : ℕ) → slot < end → up slot (end - slot) ≡ Ota slot ∷ up (slot + 1) (end - (slot + 1))
unfolding up
up-step slot end below =
    let next : end - slot ≡ suc (end - (slot + 1)) = omega arith in
    ap (up slot) next

-- as many as there are slots below
pub length-down : (slot : ℕ) → length (down slot) ≡ slot
unfolding down
length-down zero = refl
length-down (suc slot) = let rest = length-down slot in omega arith

-- as many as were asked for
pub length-up : (slot n : ℕ) → length (up slot n) ≡ n
unfolding up
length-up slot zero = refl
length-up slot (suc n) = let rest = length-up (slot + 1) n in omega arith

-- an application moves from what is to come to what has come
pub moved : (apps new : List App) (app : App) (rest whole : List App)
    → new ≡ apps ++ app ∷ [] → apps ++ (app ∷ rest) ≡ whole → new ++ rest ≡ whole
moved apps new app rest whole is same = ap (λ l. l ++ rest) is ∙ append_assoc apps (app ∷ []) rest ∙ same
