-- What the device in which one call fails hands on, and what it adds.
use Rattle.std.specs.Prelude.{◌↔◌, ◌⊎◌, ◌≡◌, ◌≤◌, ℕ, List, Option, Some, None, Result, Ok, Err, IfErr, OnErr, refl}
use Rattle.std.proofs.Common.{inl, inr}
use Rattle.nor_device.specs.declared.step.Step.{Step}
use Rattle.nor_device.specs.declared.nor.StepEnd.{StepEnd}
use Rattle.nor_device.specs.declared.nor.StepEnd.TheVariants as ends
use Rattle.nor_device.specs.declared.nor.NorFault.{NorFault}
use Rattle.nor_device.specs.declared.nor.NorFault.TheVariants as faults
use Rattle.nor_device.specs.Flash.{applied}
use Rattle.nor_device.specs.Nor.{IsMadeWhole, IsLeftTorn, end_by}
use Rattle.nor_device.proofs.TornLaws.{torn_applied}
use Rattle.crash_images.specs.Flaky.{FlakyMayEnd, FlakyMayTear, FlakyMayRefuse}
use Rattle.crash_images.specs.declared.flaky.FlakySetting.{FlakySetting}

-- a step that was whole before its poll failed is one that may be left
pub whole_torn : {S : Type 0} (may_tear : S → ℕ → List ℕ → Step → List ℕ → Type 0)
    (set : FlakySetting S) (n : ℕ) (running : Option Step) (old new : Option (List ℕ)) → 1 ≤ set.at
    → IsMadeWhole running old new → IsLeftTorn (FlakyMayTear may_tear set n) running old new
whole_torn may_tear set n None old new some made = tt
whole_torn may_tear set n (Some step) None new some made = tt
whole_torn may_tear set n (Some step) (Some flash) new some made =
    (applied flash step, made, torn_applied flash step, inr (some, refl))

-- and one that was torn inside is, too
pub inside_torn : {S : Type 0} (may_tear : S → ℕ → List ℕ → Step → List ℕ → Type 0)
    (set : FlakySetting S) (n : ℕ) (running : Option Step) (old new : Option (List ℕ))
    → IsLeftTorn (may_tear set.inner n) running old new
    → IsLeftTorn (FlakyMayTear may_tear set n) running old new
inside_torn may_tear set n None old new torn = tt
inside_torn may_tear set n (Some step) None new torn = tt
inside_torn may_tear set n (Some step) (Some flash) new torn =
    (torn.0, torn.1, torn.2, inl torn.3)

-- the same of an answer
pub on_inside_torn : {S T : Type 0} (may_tear : S → ℕ → List ℕ → Step → List ℕ → Type 0)
    (set : FlakySetting S) (n : ℕ) (running : Option Step) (old new : Option (List ℕ))
    (r : Result T NorFault) → OnErr r (IsLeftTorn (may_tear set.inner n) running old new)
    → OnErr r (IsLeftTorn (FlakyMayTear may_tear set n) running old new)
on_inside_torn may_tear set n running old new (Ok x) torn = torn
on_inside_torn may_tear set n running old new (Err why) torn =
    inside_torn may_tear set n running old new torn

-- it ends as inside
pub inside_ended : {S T : Type 0} (may_end : S → ℕ → StepEnd → Type 0) (set : FlakySetting S)
    (n : ℕ) (r : Result T NorFault) → IfErr r (λ why. may_end set.inner n (end_by why))
    → IfErr r (λ why. FlakyMayEnd may_end set n (end_by why))
inside_ended may_end set n (Ok x) ended = ended
inside_ended may_end set n (Err why) ended = inl ended

-- a call is refused as inside
pub inside_refused : {S T : Type 0} (may_end : S → ℕ → StepEnd → Type 0)
    (may_refuse : S → ℕ → NorFault → Type 0) (set : FlakySetting S) (n : ℕ) (r : Result T NorFault)
    → IfErr r (may_refuse set.inner n) → IfErr r (FlakyMayRefuse may_end may_refuse set n)
inside_refused may_end may_refuse set n (Ok x) refused = refused
inside_refused may_end may_refuse set n (Err why) refused = inl refused

-- where each step is done and nothing is torn or refused, only the call that fails is added
pub fails_ends : (set : FlakySetting (Unit {0})) (n : ℕ) (end : StepEnd)
    → FlakyMayEnd (λ inside m e. e ≡ ends.Done) set n end
    ↔ ((end ≡ ends.Done) ⊎ ((1 ≤ set.at) × (end ≡ ends.Failed)))
fails_ends set n end = (
  λ may. elim may [ inl done ↦ inl done | inr failed ↦ inr (failed.0, failed.2) ],
  λ is. elim is [ inl done ↦ inl done | inr failed ↦ inr (failed.0, refl, failed.1) ],
)

-- the flash that is left is whole
pub fails_tears : (set : FlakySetting (Unit {0})) (n : ℕ) (flash : List ℕ) (step : Step)
    (left : List ℕ) → FlakyMayTear (λ inside m f s l. ⊥) set n flash step left
    ↔ ((1 ≤ set.at) × (left ≡ applied flash step))
fails_tears set n flash step left = (
  λ may. elim may [ inl never ↦ absurd never | inr whole ↦ whole ],
  λ whole. inr whole,
)

-- and no call is off
pub fails_refuses : (set : FlakySetting (Unit {0})) (n : ℕ) (why : NorFault)
    → FlakyMayRefuse (λ inside m e. e ≡ ends.Done) (λ inside m w. ⊥) set n why
    ↔ ((1 ≤ set.at) × (why ≡ faults.Failed))
fails_refuses set n faults.Failed = (
  λ may. elim may [ inl never ↦ absurd never | inr some ↦ (some, refl) ],
  λ failed. inr failed.0,
)
fails_refuses set n faults.Off = (
  λ may. elim may [ inl never ↦ absurd never | inr cut ↦ absurd (cc cut) ],
  λ failed. absurd (cc failed.1),
)
