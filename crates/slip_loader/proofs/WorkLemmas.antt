-- Work step by step: what is made so far, and what is left where a step is refused.
use Rattle.std.specs.Prelude.{◌≡◌, ◌≤◌, ℕ, ◌+◌, ◌-◌, ◌*◌, ◌/◌, ◌%◌, List, [], ◌∷◌, ◌++◌, Option, Some, None, Bool, Result, Ok}
use Rattle.std.proofs.Common.{refl, sym, ap, subst, ◌∙◌, append_assoc, arith}
use Rattle.std.proofs.lemmas.List.{append-nil}
use Rattle.nor_device.specs.declared.step.Step.{Step}
use Rattle.nor_device.specs.declared.step.Step.TheVariants.{Erase}
use Rattle.nor_device.specs.declared.nor.NorFault.{NorFault}
use Rattle.nor_device.specs.Flash.{after_steps}
use Rattle.nor_device.specs.Make.{IsAfter, IsTornBy}
use Rattle.nor_device.specs.Nor.{HasCause, Rose, one_more}
use Rattle.crash_images.specs.Crash.{IsAfterAll, IsLeftOf}
use Rattle.crash_images.proofs.LeftLaws.{left_end}
use Rattle.crash_images.proofs.LeftOf.{after_both, after_more, after_none, left_of_back, left_of_front, left_of_torn}
use Rattle.flash_steps.specs.Steps.{erase_steps, erases}
use Rattle.flash_steps.proofs.EraseLemmas.{one_erase, pieces_of_erase}
use Rattle.slip_loader.specs.Loads.{ComesOf, count_after}

-- ---- lists of steps

-- what all of the steps leave is left at some moment of them
pub left_of_all : (steps : List Step) (old new : Option (List ℕ)) → IsAfterAll steps old new
    → IsLeftOf steps old new
left_of_all steps None new all = tt
left_of_all steps (Some flash) new all = (after_steps flash steps, all, left_end flash steps)

-- one step more is made
pub after_one_more : (made : List Step) (step : Step) (old mid new : Option (List ℕ))
    → IsAfterAll made old mid → IsAfter step mid new → IsAfterAll (made ++ (step ∷ [])) old new
after_one_more made step old mid new all one =
    after_both made (step ∷ []) old mid new all
    (after_more step [] mid new new one (after_none new new refl))

-- the next step was torn, and others were to follow
pub left_of_next : (made rest : List Step) (step : Step) (old mid new : Option (List ℕ))
    → IsAfterAll made old mid → IsTornBy step mid new
    → IsLeftOf ((made ++ (step ∷ [])) ++ rest) old new
left_of_next made rest step old mid new all torn =
    left_of_front (made ++ (step ∷ [])) rest old new
    (left_of_back made (step ∷ []) old mid new all (left_of_torn step [] mid new torn))

-- the number of steps after these and then those
pub count_append : (count : ℕ) (first second : List Step)
    → count_after count (first ++ second) ≡ count_after (count_after count first) second
count_append count [] second = refl
count_append count (step ∷ steps) second = count_append (one_more count) steps second

-- ---- causes

-- a refusal after calls that were not
pub comes_of : {T : Type 0} (was mid now : ℕ) (off : Bool) (result : Result T NorFault) → mid ≡ was
    → HasCause mid now off result → ComesOf was now off result
comes_of was mid now off result same cause = record {
  later = subst (λ (n : ℕ). n ≤ now) same cause.later;
  failed = λ err. subst (λ (n : ℕ). Rose n now) same (cause.failed err);
  cut = λ err. (cause.off_is).0 err;
}

-- no call was refused
pub comes_of_none : {T : Type 0} (was now : ℕ) (off : Bool) (value : T) → now ≡ was
    → ComesOf was now off (Ok value)
comes_of_none {T = T} was now off value same = record {
  later = omega (arith, same);
  failed = λ err. cc;
  cut = λ err. cc;
}

-- ---- erases

-- one sector more is erased
pub erase_next : (at sector : ℕ) → at % 4096 ≡ 0 → at ≤ sector * 4096
    → erase_steps at ((sector + 1) * 4096 - at)
    ≡ erase_steps at (sector * 4096 - at) ++ (Erase sector ∷ [])
erase_next at sector begins above =
    let done : ℕ = sector * 4096 - at in
    let whole : (sector + 1) * 4096 - at ≡ done + 4096 = omega arith in
    let aligned : done % 4096 ≡ 0 = omega arith in
    let here : at + done ≡ sector * 4096 = omega arith in
    let number : sector * 4096 / 4096 ≡ sector = omega arith in
    ap (erase_steps at) whole
    ∙ pieces_of_erase at done 4096 begins aligned
    ∙ ap (λ (steps : List Step). erase_steps at done ++ steps)
    (ap (λ (a : ℕ). erase_steps a 4096) here ∙ one_erase (sector * 4096)
    ∙ ap (λ (s : ℕ). Erase s ∷ []) number)

-- all sectors, with this one and those behind it
pub erase_split : (at len sector : ℕ) → at % 4096 ≡ 0 → at ≤ sector * 4096
    → (sector + 1) * 4096 ≤ at + len
    → erase_steps at len
    ≡ (erase_steps at (sector * 4096 - at) ++ (Erase sector ∷ []))
    ++ erase_steps ((sector + 1) * 4096) (at + len - (sector + 1) * 4096)
erase_split at len sector begins above below =
    let done : ℕ = (sector + 1) * 4096 - at in
    let rest : ℕ = at + len - (sector + 1) * 4096 in
    let whole : len ≡ done + rest = omega arith in
    let aligned : done % 4096 ≡ 0 = omega arith in
    let here : at + done ≡ (sector + 1) * 4096 = omega arith in
    ap (erase_steps at) whole
    ∙ pieces_of_erase at done rest begins aligned
    ∙ ap (λ (a : ℕ). erase_steps at done ++ erase_steps a rest) here
    ∙ ap (λ (steps : List Step). steps ++ erase_steps ((sector + 1) * 4096) rest)
    (erase_next at sector begins above)

-- ---- programs

-- of all steps these are left, and the others are made
pub record Writing (all left : List Step) (was now : ℕ) (old mid : Option (List ℕ)) : Type 0 where
  pub made : List Step
  pub split : all ≡ made ++ left
  pub counted : now ≡ count_after was made
  pub bytes : IsAfterAll made old mid

-- at first all are left
pub writing_none : (all : List Step) (was : ℕ) (told : Option (List ℕ))
    → Writing all all was was told told
writing_none all was told = record {
  made = [];
  split = refl;
  counted = refl;
  bytes = after_none told told refl;
}

-- one step more is made
pub writing_next : (all left rest : List Step) (step : Step) (was mid now : ℕ)
    (old told new : Option (List ℕ)) → left ≡ step ∷ rest → Writing all left was mid old told
    → now ≡ one_more mid → IsAfter step told new → Writing all rest was now old new
writing_next all left rest step was mid now old told new is w counted one = record {
  made = w.made ++ (step ∷ []);
  split = w.split ∙ ap (λ (l : List Step). w.made ++ l) is
      ∙ sym (append_assoc w.made (step ∷ []) rest);
  counted = counted ∙ ap one_more w.counted ∙ sym (count_append was w.made (step ∷ []));
  bytes = after_one_more w.made step old told new w.bytes one;
}

-- none is left
pub writing_all : (all left : List Step) (was now : ℕ) (old new : Option (List ℕ)) → left ≡ []
    → Writing all left was now old new → IsAfterAll all old new
writing_all all left was now old new is w =
    let same : all ≡ w.made = w.split ∙ ap (λ (l : List Step). w.made ++ l) is
    ∙ append-nil w.made in
    subst (λ (l : List Step). IsAfterAll l old new) (sym same) w.bytes

pub writing_counted : (all left : List Step) (was now : ℕ) (old new : Option (List ℕ)) → left ≡ []
    → Writing all left was now old new → now ≡ count_after was all
writing_counted all left was now old new is w =
    let same : all ≡ w.made = w.split ∙ ap (λ (l : List Step). w.made ++ l) is
    ∙ append-nil w.made in
    w.counted ∙ ap (count_after was) (sym same)

-- the next one was torn
pub writing_torn : (all left rest : List Step) (step : Step) (was now : ℕ)
    (old told new : Option (List ℕ)) → left ≡ step ∷ rest → Writing all left was now old told
    → IsTornBy step told new → IsLeftOf all old new
writing_torn all left rest step was now old told new is w torn =
    let same : all ≡ (w.made ++ (step ∷ [])) ++ rest = w.split
    ∙ ap (λ (l : List Step). w.made ++ l) is ∙ sym (append_assoc w.made (step ∷ []) rest) in
    subst (λ (l : List Step). IsLeftOf l old new) (sym same)
    (left_of_next w.made rest step old told new w.bytes torn)

-- at first no sector is erased
pub erase_none : (at sector : ℕ) → sector * 4096 ≤ at → erase_steps at (sector * 4096 - at) ≡ []
unfolding erase_steps erases
erase_none at sector below =
    let none : sector * 4096 - at ≡ 0 = omega arith in
    ap (erase_steps at) none

-- at the end all are
pub erase_whole : (at len sector : ℕ) → sector * 4096 ≡ at + len
    → erase_steps at (sector * 4096 - at) ≡ erase_steps at len
erase_whole at len sector is =
    let same : sector * 4096 - at ≡ len = omega (arith, is) in
    ap (erase_steps at) same
