-- The laws of the duty: a core's part moves by its own steps alone, and what is allowed keeps the
-- flash good, wherever it is cut short.
use Rattle.std.proofs.Common.{◌≡◌, ◌≢◌, inl, inr, Bool, true, false, ℕ, List, [], ◌∷◌, ◌++◌, drop, refl, sym, ap, ◌∙◌, subst, append_assoc}
use Rattle.std.specs.Prelude.{◌==◌, if◌then◌else◌}
use Rattle.std.proofs.lemmas.Bool.{false≢true}
use Rattle.std.proofs.lemmas.Bool.Decides.{eqb_tells}
use Rattle.nor_device.specs.declared.step.Step.{Step}
use Rattle.nor_device.specs.Flash.{applied}
use Rattle.nor_device.specs.Torn.{Torn}
use Rattle.nor_device.proofs.TornLaws.{torn_applied}
use Rattle.flash_steps.specs.Parts.{open_addresses}
use Rattle.update_steps.specs.Beside.{StandsBeside}
use Rattle.update_steps.proofs.ApartLemmas.{open_stands}
use Rattle.update_steps.proofs.BesideLemmas.{beside_made, beside_torn}
use Rattle.ota_session.specs.declared.part.UpdatePart.{UpdatePart}
use Rattle.ota_session.specs.declared.part.UpdatePart.TheVariants.{Driver, Other}
use Rattle.ota_session.specs.Course.{Course, Grants, IsGood, IsMadeFor, IsNext, course_after, driven, part_after, part_of}
use Rattle.ota_session.specs.GoodLaws.{good_of}

-- ---- parts

-- a core's part, where it is the driver or not
abbrev part_by : Course → Bool → UpdatePart
part_by duty own = if own then Driver duty.made duty.rest else Other duty.rows

-- the duty, where the core that made the step is the driver or not
abbrev after_by : Course → Step → Bool → Course
after_by duty step own = if own then driven duty step else duty

-- a core's own step moves its part
pub own_moves : (duty : Course) (c : ℕ) (step : Step)
    → part_of (course_after duty c step) c ≡ part_after (part_of duty c) step
own_moves duty c step = by (c == duty.driver) refl
  where
    by : (own : Bool) → (c == duty.driver) ≡ own
        → part_of (course_after duty c step) c ≡ part_after (part_of duty c) step
    by true is = ap (λ (t : Bool). part_of (after_by duty step t) c) is
        ∙ ap (λ (t : Bool). part_by (driven duty step) t) is
        ∙ sym (ap (λ (t : Bool). part_after (part_by duty t) step) is)
    by false is = ap (λ (t : Bool). part_of (after_by duty step t) c) is
        ∙ ap (λ (t : Bool). part_by duty t) is
        ∙ sym (ap (λ (t : Bool). part_after (part_by duty t) step) is)

-- a core that is not the driver is told so
aside_is : (duty : Course) (c o : ℕ) → c ≢ o → (o == duty.driver) ≡ true
    → (c == duty.driver) ≡ false
aside_is duty c o apart is = elim (eqb_tells c duty.driver) [
  | inl mine ↦ elim (eqb_tells o duty.driver) [
    | inl own ↦ absurd (apart (mine.1 ∙ sym own.1))
    | inr other ↦ absurd (false≢true (sym other.0 ∙ is))
  ]
  | inr other ↦ other.0
]

-- a step of the other core leaves it
pub other_stays : (duty : Course) (c o : ℕ) (step : Step) → c ≢ o
    → part_of (course_after duty o step) c ≡ part_of duty c
other_stays duty c o step apart = by (o == duty.driver) refl
  where
    by : (own : Bool) → (o == duty.driver) ≡ own
        → part_of (course_after duty o step) c ≡ part_of duty c
    by true is =
        let aside = aside_is duty c o apart is in
        ap (λ (t : Bool). part_of (after_by duty step t) c) is
        ∙ ap (λ (t : Bool). part_by (driven duty step) t) aside
        ∙ sym (ap (λ (t : Bool). part_by duty t) aside)
    by false is = ap (λ (t : Bool). part_of (after_by duty step t) c) is

-- ---- steps

-- the first of some steps is one, and behind it are the others
pub next_split : (rest : List Step) (step : Step) → IsNext rest step → rest ≡ step ∷ drop 1 rest
next_split [] step is = absurd is
next_split (next ∷ rest) step is = ap (λ s. s ∷ rest) (sym is)

module _ (first : List ℕ) (made : List Step) (others : ℕ → Bool) (now : List ℕ) (step : Step) where
  -- what the next step leaves where it is cut short stands
  next_torn : (left : List ℕ) (rest : List Step) → IsNext rest step
      → StandsBeside first made rest others now → Torn now step left
      → StandsBeside first made rest others left
  next_torn left [] is stands torn = absurd is
  next_torn left (next ∷ rest) is stands torn =
      beside_torn first made next rest others now left stands
      (subst (λ (s : Step). Torn now s left) is torn)

  -- and so does what it leaves once it is made
  next_made : (rest : List Step) → IsNext rest step → StandsBeside first made rest others now
      → StandsBeside first (made ++ (step ∷ [])) (drop 1 rest) others (applied now step)
  next_made [] is stands = absurd is
  next_made (next ∷ rest) is stands =
      subst (λ (s : Step). StandsBeside first (made ++ (s ∷ [])) rest others (applied now s))
      (sym is) (beside_made first made next rest others now stands)

-- ---- goodness

-- the duty was made for the same flash, a step later
made_for_later : (first : List ℕ) (duty : Course) (step : Step) → IsNext duty.rest step
    → IsMadeFor first duty → IsMadeFor first (driven duty step)
made_for_later first duty step is for = record {
  table = for.table;
  layout = for.layout;
  purpose = for.purpose;
  steps = for.steps ∙ ap (λ (rest : List Step). duty.made ++ rest) (next_split duty.rest step is)
      ∙ sym (append_assoc duty.made (step ∷ []) (drop 1 duty.rest));
}

module _ (first : List ℕ) (duty : Course) (c : ℕ) (step : Step) (flash : List ℕ)
    (good : IsGood first duty flash) (may : Grants (part_of duty c) step) where
  -- what the core may do, where it is the driver or not
  may_by : (own : Bool) → (c == duty.driver) ≡ own
      → Grants (if own then Driver duty.made duty.rest else Other duty.rows) step
  may_by own is =
      subst (λ (t : Bool). Grants (if t then Driver duty.made duty.rest else Other duty.rows) step) is may

  -- what a step that is allowed leaves of a good flash where it is cut short is good
  pub torn_keeps : (left : List ℕ) → Torn flash step left → IsGood first duty left
  torn_keeps left torn = by (c == duty.driver) refl
    where
      by : (own : Bool) → (c == duty.driver) ≡ own → IsGood first duty left
      by true is = good_of first duty left good.made_for
          (next_torn first duty.made (open_addresses duty.rows) flash step left duty.rest
          (may_by true is) good.stands torn)
      by false is = good_of first duty left good.made_for
          (open_stands first duty.made duty.rest duty.rows step flash left good.stands
          (may_by false is) torn)

  -- and so is what it leaves once it is made
  pub made_keeps : IsGood first (course_after duty c step) (applied flash step)
  made_keeps = by (c == duty.driver) refl
    where
      by : (own : Bool) → (c == duty.driver) ≡ own
          → IsGood first (course_after duty c step) (applied flash step)
      by true is =
          subst (λ (t : Bool). IsGood first (if t then driven duty step else duty)
          (applied flash step)) (sym is)
          (good_of first (driven duty step) (applied flash step)
          (made_for_later first duty step (may_by true is) good.made_for)
          (next_made first duty.made (open_addresses duty.rows) flash step duty.rest
          (may_by true is) good.stands))
      by false is =
          subst (λ (t : Bool). IsGood first (if t then driven duty step else duty)
          (applied flash step)) (sym is)
          (good_of first duty (applied flash step) good.made_for
          (open_stands first duty.made duty.rest duty.rows step flash (applied flash step)
          good.stands (may_by false is) (torn_applied flash step)))

pub torn_good : (first : List ℕ) (duty : Course) (c : ℕ) (step : Step) (flash left : List ℕ)
    → IsGood first duty flash → Grants (part_of duty c) step → Torn flash step left
    → IsGood first duty left
torn_good first duty c step flash left good may torn =
    torn_keeps first duty c step flash good may left torn

pub made_good : (first : List ℕ) (duty : Course) (c : ℕ) (step : Step) (flash : List ℕ)
    → IsGood first duty flash → Grants (part_of duty c) step
    → IsGood first (course_after duty c step) (applied flash step)
made_good first duty c step flash good may = made_keeps first duty c step flash good may
