-- How lists of steps that were made on a device go on, one after the other.
use Rattle.std.specs.Prelude.{◌≡◌, ℕ, List, [], ◌∷◌, ◌++◌, Option, Some, None, IfSome, Result, Ok, Err, IfErr, OnOk}
use Rattle.std.proofs.Common.{refl, sym, ap, ◌∙◌, subst, inl, inr}
use Rattle.std.proofs.lemmas.List.{append_assoc}
use Rattle.std.proofs.lemmas.Result.{MatchResult-from_both}
use Rattle.nor_device.specs.declared.step.Step.{Step}
use Rattle.nor_device.specs.declared.nor.StepEnd.{StepEnd}
use Rattle.nor_device.specs.declared.nor.StepEnd.TheVariants as ends
use Rattle.nor_device.specs.declared.nor.NorFault.{NorFault}
use Rattle.nor_device.specs.Flash.{after_steps}
use Rattle.nor_device.specs.Torn.{Torn}
use Rattle.nor_device.specs.Nor.{one_more, end_by}
use Rattle.nor_device.specs.Make.{IsAfter, IsMissed}
use Rattle.nor_device.proofs.FlashLaws.{after_steps_append}
use Rattle.crash_images.specs.Crash.{IsAfterAll, IsLeftOf}
use Rattle.crash_images.proofs.LeftOf.{after_none, after_both, left_of_front}
use Rattle.crash_images.proofs.LeftLaws.{left_end, left_torn, left_back}
use Rattle.boot_run.specs.Made.{count_after, EachDone, AreMade, IsRefusedAfter, StopsAt, AreMissed, AreMadeBy}

-- the numbers of two lists of steps
pub count_append : (count : ℕ) (front back : List Step)
    → count_after count (front ++ back) ≡ count_after (count_after count front) back
count_append count [] back = refl
count_append count (step ∷ front) back = count_append (one_more count) front back

-- what all of the steps leave is left at some moment of them
left_of_all : (steps : List Step) (old new : Option (List ℕ)) → IsAfterAll steps old new
    → IsLeftOf steps old new
left_of_all steps None new all = tt
left_of_all steps (Some flash) new all = (after_steps flash steps, all, left_end flash steps)

module _ {S : Type 0} (may_end : S → ℕ → StepEnd → Type 0)
    (may_tear : S → ℕ → List ℕ → Step → List ℕ → Type 0)
    (may_refuse : S → ℕ → NorFault → Type 0) (must_refuse : S → ℕ → Type 0) where
  -- what is used of the words below
  abbrev pub Each : S → ℕ → List Step → Type 0
  Each = EachDone may_end may_tear may_refuse must_refuse

  abbrev pub Made : S → List Step → ℕ → ℕ → Option (List ℕ) → Option (List ℕ) → Type 0
  Made = AreMade may_end may_tear may_refuse must_refuse

  abbrev pub Missed : S → List Step → ℕ → ℕ → Option (List ℕ) → Option (List ℕ) → NorFault → Type 0
  Missed = AreMissed may_end may_tear may_refuse must_refuse

  abbrev pub Stops : S → List Step → List Step → ℕ → ℕ → Option (List ℕ) → Option (List ℕ)
      → NorFault → Type 0
  Stops = StopsAt may_end may_tear may_refuse must_refuse

  -- each of two lists of steps
  pub each_append : (set : S) (count : ℕ) (front back : List Step) → Each set count front
      → Each set (count_after count front) back → Each set count (front ++ back)
  each_append set count [] back one two = two
  each_append set count (step ∷ front) back one two =
      (one.0, each_append set (one_more count) front back one.1 two)

  -- no step
  pub made_none : (set : S) (count now : ℕ) (old new : Option (List ℕ)) → now ≡ count → new ≡ old
      → Made set [] count now old new
  made_none set count now old new same bytes =
      record { each = tt; counted = same; bytes = after_none old new bytes }

  -- one step
  pub made_one : (set : S) (step : Step) (count now : ℕ) (old new : Option (List ℕ))
      → ¬ must_refuse set count → may_end set (one_more count) ends.Done → now ≡ one_more count
      → IsAfter step old new → Made set (step ∷ []) count now old new
  made_one set step count now old new begun ended counted bytes = record {
    each = (record { begun = begun; ended = ended }, tt);
    counted = counted;
    bytes = bytes;
  }

  -- two lists of steps
  pub made_both : (set : S) (front back : List Step) (count mid now : ℕ)
      (old told new : Option (List ℕ)) → Made set front count mid old told
      → Made set back mid now told new → Made set (front ++ back) count now old new
  made_both set front back count mid now old told new one two = record {
    each = each_append set count front back one.each
        (subst (λ n. Each set n back) one.counted two.each);
    counted = two.counted ∙ ap (λ n. count_after n back) one.counted
        ∙ sym (count_append count front back);
    bytes = after_both front back old told new one.bytes two.bytes;
  }

  -- a call was refused before any step was begun
  pub missed_none : (set : S) (steps : List Step) (count now : ℕ) (old new : Option (List ℕ))
      (why : NorFault) → now ≡ count → new ≡ old → may_refuse set count why
      → Missed set steps count now old new why
  missed_none set steps count now old new why same bytes allowed = record {
    made = [];
    rest = steps;
    split = refl;
    each = tt;
    stops = by steps;
  }
    where
      refused : IsRefusedAfter may_end may_tear may_refuse must_refuse set [] count now old new why
      refused = record {
        counted = same;
        allowed = subst (λ n. may_refuse set n why) (sym same) allowed;
        bytes = after_none old new bytes;
      }

      by : (rest : List Step) → Stops set [] rest count now old new why
      by [] = refused
      by (step ∷ rest) = inl refused

  -- a step was missed
  pub missed_one : (set : S) (step : Step) (count now : ℕ) (old new : Option (List ℕ))
      (why : NorFault)
      → IsMissed may_end may_tear may_refuse must_refuse set step count now old new why
      → Missed set (step ∷ []) count now old new why
  missed_one set step count now old new why (inl refused) =
      missed_none set (step ∷ []) count now old new why refused.steps_same refused.bytes_same
      refused.allowed
  missed_one set step count now old new why (inr broken) = record {
    made = [];
    rest = step ∷ [];
    split = refl;
    each = tt;
    stops = inr (record {
      begun = broken.begun;
      counted = broken.counted;
      ended = subst (λ n. may_end set n (end_by why)) (sym broken.counted) broken.ended;
      left = subst (λ n. IfSome old (λ flash. (left : List ℕ) × (new ≡ Some left)
          × Torn flash step left
          × may_tear set n flash step left)) (sym broken.counted) broken.left;
    });
  }

  -- where steps were missed, others were to follow
  pub missed_front : (set : S) (front back : List Step) (count now : ℕ) (old new : Option (List ℕ))
      (why : NorFault) → Missed set front count now old new why
      → Missed set (front ++ back) count now old new why
  missed_front set front back count now old new why missed = record {
    made = missed.made;
    rest = missed.rest ++ back;
    split = ap (λ (l : List Step). l ++ back) missed.split ∙ append_assoc missed.made missed.rest
        back;
    each = missed.each;
    stops = longer missed.rest back missed.stops;
  }
    where
      longer : (rest more : List Step) → Stops set missed.made rest count now old new why
          → Stops set missed.made (rest ++ more) count now old new why
      longer [] [] stops = stops
      longer [] (step ∷ more) stops = inl stops
      longer (step ∷ rest) more stops = stops

  -- behind steps that were made whole, others were missed
  pub missed_back : (set : S) (front back : List Step) (count mid now : ℕ)
      (old told new : Option (List ℕ)) (why : NorFault) → Made set front count mid old told
      → Missed set back mid now told new why → Missed set (front ++ back) count now old new why
  missed_back set front back count mid now old told new why one missed = record {
    made = front ++ missed.made;
    rest = missed.rest;
    split = ap (λ (l : List Step). front ++ l) missed.split
        ∙ sym (append_assoc front missed.made missed.rest);
    each = each_append set count front missed.made one.each
        (subst (λ n. Each set n missed.made) one.counted missed.each);
    stops = stops missed.rest missed.stops;
  }
    where
      number : count_after mid missed.made ≡ count_after count (front ++ missed.made)
      number = ap (λ n. count_after n missed.made) one.counted
          ∙ sym (count_append count front missed.made)

      refused : IsRefusedAfter may_end may_tear may_refuse must_refuse set missed.made mid now told
          new why
          → IsRefusedAfter may_end may_tear may_refuse must_refuse set (front ++ missed.made) count
          now old new why
      refused r = record {
        counted = r.counted ∙ number;
        allowed = r.allowed;
        bytes = after_both front missed.made old told new one.bytes r.bytes;
      }

      moved : (step : Step) (first mid' : Option (List ℕ)) → IsAfterAll front first mid'
          → IfSome mid' (λ flash. (left : List ℕ) × (new ≡ Some left)
          × Torn (after_steps flash missed.made) step left
          × may_tear set now (after_steps flash missed.made) step left)
          → IfSome first (λ flash. (left : List ℕ) × (new ≡ Some left)
          × Torn (after_steps flash (front ++ missed.made)) step left
          × may_tear set now (after_steps flash (front ++ missed.made)) step left)
      moved step None mid' all left = tt
      moved step (Some flash) mid' all left =
          let on = subst (λ (m : Option (List ℕ)). IfSome m
          (λ flash. (left : List ℕ) × (new ≡ Some left)
          × Torn (after_steps flash missed.made) step left
          × may_tear set now (after_steps flash missed.made) step left)) all left in
          subst (λ (f : List ℕ). (left : List ℕ) × (new ≡ Some left) × Torn f step left
          × may_tear set now f step left) (sym (after_steps_append flash front missed.made)) on

      stops : (rest : List Step) → Stops set missed.made rest mid now told new why
          → Stops set (front ++ missed.made) rest count now old new why
      stops [] r = refused r
      stops (step ∷ rest) (inl r) = inl (refused r)
      stops (step ∷ rest) (inr b) = inr (record {
        begun = λ must. b.begun (subst (λ n. must_refuse set n) (sym number) must);
        counted = b.counted ∙ ap one_more number;
        ended = b.ended;
        left = moved step old told one.bytes b.left;
      })

  -- the same of an answer, where the setting is told of the device as it was by then
  pub on_made_both : {T : Type 0} (set mid_set : S) (front back : List Step) (count mid now : ℕ)
      (old told new : Option (List ℕ)) (r : Result T NorFault) → mid_set ≡ set
      → Made set front count mid old told → OnOk r (Made mid_set back mid now told new)
      → OnOk r (Made set (front ++ back) count now old new)
  on_made_both set mid_set front back count mid now old told new (Ok x) same one two =
      made_both set front back count mid now old told new one
      (subst (λ s. Made s back mid now told new) same two)
  on_made_both set mid_set front back count mid now old told new (Err why) same one two = two

  pub on_missed_back : {T : Type 0} (set mid_set : S) (front back : List Step) (count mid now : ℕ)
      (old told new : Option (List ℕ)) (r : Result T NorFault) → mid_set ≡ set
      → Made set front count mid old told → IfErr r (Missed mid_set back mid now told new)
      → IfErr r (Missed set (front ++ back) count now old new)
  on_missed_back set mid_set front back count mid now old told new (Ok x) same one missed = missed
  on_missed_back set mid_set front back count mid now old told new (Err why) same one missed =
      missed_back set front back count mid now old told new why one
      (subst (λ s. Missed s back mid now told new why) same missed)

  -- one step by its clauses
  pub on_made_one : {T : Type 0} (set : S) (step : Step) (count now : ℕ) (old new : Option (List ℕ))
      (r : Result T NorFault) → OnOk r (¬ must_refuse set count)
      → OnOk r (may_end set (one_more count) ends.Done) → OnOk r (now ≡ one_more count)
      → OnOk r (IsAfter step old new) → OnOk r (Made set (step ∷ []) count now old new)
  on_made_one set step count now old new (Ok x) begun ended counted bytes =
      made_one set step count now old new begun ended counted bytes
  on_made_one set step count now old new (Err why) begun ended counted bytes = begun

  pub on_missed_one : {T : Type 0} (set : S) (step : Step) (count now : ℕ)
      (old new : Option (List ℕ))
      (r : Result T NorFault)
      → IfErr r (IsMissed may_end may_tear may_refuse must_refuse set step count now old new)
      → IfErr r (Missed set (step ∷ []) count now old new)
  on_missed_one set step count now old new (Ok x) missed = missed
  on_missed_one set step count now old new (Err why) missed =
      missed_one set step count now old new why missed

  -- what all of the steps leave is left at some moment of them
  pub made_left : (set : S) (steps : List Step) (count now : ℕ) (old new : Option (List ℕ))
      → Made set steps count now old new → IsLeftOf steps old new
  made_left set steps count now old new made = left_of_all steps old new made.bytes

  -- so is what is left where one was missed
  pub missed_left : (set : S) (steps : List Step) (count now : ℕ) (old new : Option (List ℕ))
      (why : NorFault) → Missed set steps count now old new why → IsLeftOf steps old new
  missed_left set steps count now old new why missed =
      subst (λ (l : List Step). IsLeftOf l old new) (sym missed.split) (by missed.rest missed.stops)
    where
      refused : (rest : List Step)
          → IsRefusedAfter may_end may_tear may_refuse must_refuse set missed.made count now old new
          why
          → IsLeftOf (missed.made ++ rest) old new
      refused rest r = left_of_front missed.made rest old new
          (left_of_all missed.made old new r.bytes)

      broken : (step : Step) (rest : List Step) (first : Option (List ℕ))
          → IfSome first (λ flash. (left : List ℕ) × (new ≡ Some left)
          × Torn (after_steps flash missed.made) step left
          × may_tear set now (after_steps flash missed.made) step left)
          → IsLeftOf (missed.made ++ (step ∷ rest)) first new
      broken step rest None left = tt
      broken step rest (Some flash) left = (
        left.0,
        left.1,
        left_back flash missed.made (step ∷ rest) left.0
            (left_torn (after_steps flash missed.made) step rest left.0 left.2),
      )

      by : (rest : List Step) → Stops set missed.made rest count now old new why
          → IsLeftOf (missed.made ++ rest) old new
      by [] r = refused [] r
      by (step ∷ rest) (inl r) = refused (step ∷ rest) r
      by (step ∷ rest) (inr b) = broken step rest old b.left

  -- both answers, where setting, number and bytes are told of the device as it was by then
  pub made_by : {T : Type 0} (set mid_set : S) (steps : List Step) (count mid now : ℕ)
      (old told new : Option (List ℕ)) (r : Result T NorFault) → mid_set ≡ set → mid ≡ count → told
      ≡ old
      → OnOk r (Made mid_set steps mid now told new)
      → IfErr r (Missed mid_set steps mid now told new)
      → AreMadeBy may_end may_tear may_refuse must_refuse set steps count now old new r
  made_by set mid_set steps count mid now old told new r same_set same_count same_bytes made missed
      =
      subst (λ s. AreMadeBy may_end may_tear may_refuse must_refuse s steps count now old new r)
      same_set
      (subst (λ c. AreMadeBy may_end may_tear may_refuse must_refuse mid_set steps c now old new r)
      same_count
      (subst (λ o. AreMadeBy may_end may_tear may_refuse must_refuse mid_set steps mid now o new r)
      same_bytes
      (MatchResult-from_both r (λ x. Made mid_set steps mid now told new)
      (Missed mid_set steps mid now told new) made missed)))

  -- whatever the answer, the bytes are left at some moment of the steps
  pub made_by_left : {T : Type 0} (set : S) (steps : List Step) (count now : ℕ)
      (old new : Option (List ℕ)) (r : Result T NorFault)
      → AreMadeBy may_end may_tear may_refuse must_refuse set steps count now old new r
      → IsLeftOf steps old new
  made_by_left set steps count now old new (Ok x) made = made_left set steps count now old new made
  made_by_left set steps count now old new (Err why) missed =
      missed_left set steps count now old new why missed

  -- where there is an answer, all of the steps were made
  pub made_by_ok : {T : Type 0} (set : S) (steps : List Step) (count now : ℕ)
      (old new : Option (List ℕ)) (r : Result T NorFault)
      → AreMadeBy may_end may_tear may_refuse must_refuse set steps count now old new r
      → OnOk r (Made set steps count now old new)
  made_by_ok set steps count now old new (Ok x) made = made
  made_by_ok set steps count now old new (Err why) missed = tt
