-- Memory that ran out is no refusal of a plan or of its parts.
use Rattle.std.proofs.Common.{◌≡◌, ℕ, ◌+◌, ◌-◌, ◌^◌, List, [], ◌∷◌, length, Option, Some, None, Result, Ok, Err, refl, sym, ap, ◌∙◌}
use Rattle.std.specs.Prelude.{Bool, true, false, if◌then◌else◌, min}
use Rattle.std.specs.Option.{option_or}
use Rattle.pipe_ends.specs.Words.{lines_of, words_of}
use Rattle.image_maker.specs.declared.refusal.MakeNo.{MakeNo}
use Rattle.image_maker.specs.declared.refusal.MakeNo.TheVariants.{NoSegments, OddLength, OddAddress, SpaceEnd, Overlap, TooManySegments, TooLong, Memory}
use Rattle.image_maker.specs.declared.refusal.PlanNo.{PlanNo}
use Rattle.image_maker.specs.declared.refusal.PlanNo.TheVariants.{Memory as NoMemory}
use Rattle.image_maker.specs.declared.refusal.PlanWhy.{PlanWhy}
use Rattle.image_maker.specs.Plan.{Planned}
use Rattle.image_maker.specs.PlanText.{Drafted, after_line, after_lines, and_then, finished, nothing, plan_by, plan_of_text}
use Rattle.image_maker.specs.Placing.{Part, joined, placed, text_from}
use Rattle.image_maker.specs.Refused.{length_of, make_fault, met_by_first, overlap, overlap_fault, part_fault, parts_fault, size_fault}
use Rattle.image_maker.specs.Image.{bytes_of, image_of, unless}

-- a reason against parts is not that memory ran out
abbrev IsReason : Option MakeNo → Type 0
IsReason fault = fault ≡ Some Memory → ⊥

-- whether a reason is that memory ran out
abbrev is_memory : MakeNo → Bool
is_memory Memory = true
is_memory why = false

-- another is one
fine : (why : MakeNo) → is_memory why ≡ false → IsReason (Some why)
fine why other is =
    let same : why ≡ Memory = cc in
    let both : false ≡ true = sym other ∙ ap is_memory same in absurd (cc)

-- there is none
none : IsReason None
none is = cc

-- so of two
either : (a b : Option MakeNo) → IsReason a → IsReason b → IsReason (option_or a b)
either None b one two = two
either (Some why) b one two = one

-- and so by a test
tested : (test : Bool) (a b : Option MakeNo) → IsReason a → IsReason b → IsReason (if test then a else b)
tested true a b one two = one
tested false a b one two = two

part_reason : (number load len : ℕ) → IsReason (part_fault number load len)
unfolding part_fault
part_reason number load len =
    tested _ _ _ (fine (OddLength number) refl)
    (tested _ _ _ (fine (OddAddress number) refl) (tested _ _ _ (fine (SpaceEnd number) refl) none))

parts_reason : (number : ℕ) (ps : List Part) → IsReason (parts_fault number ps)
parts_reason number [] = none
parts_reason number (p ∷ ps) =
    either (part_fault number p.load (length p.content)) (parts_fault (number + 1) ps)
    (part_reason number p.load (length p.content)) (parts_reason (number + 1) ps)

overlap_reason : (number : ℕ) (ps : List Part) → IsReason (overlap_fault number ps)
overlap_reason number [] = none
overlap_reason number (p ∷ ps) =
    either (overlap number (met_by_first number (p ∷ ps))) (overlap_fault (number + 1) ps)
    (by (met_by_first number (p ∷ ps))) (overlap_reason (number + 1) ps)
  where
    by : (other : Option ℕ) → IsReason (overlap number other)
    by None = none
    by (Some b) = fine (Overlap number b) refl

size_reason : (count end : ℕ) (hash : Bool) → IsReason (size_fault count end hash)
unfolding size_fault
size_reason count end hash =
    tested _ _ _ (fine (TooManySegments count) refl)
    (tested _ _ _ (fine (TooLong (min (length_of end hash) (2 ^ 64 - 1))) refl) none)

make_reason : (hash : Bool) (ps : List Part) → IsReason (make_fault hash ps)
unfolding make_fault
make_reason hash ps =
    tested _ _ _ (fine NoSegments refl)
    (either (parts_fault 0 ps) _ (parts_reason 0 ps)
    (either (overlap_fault 0 ps) _ (overlap_reason 0 ps)
    (size_reason (length (placed ps 24)) (24 + length (text_from ps 24)) hash)))

-- parts are not refused so
pub no_image : (plan : Planned) (files : List (List ℕ)) → image_of plan files ≡ Err Memory → ⊥
unfolding image_of
no_image plan files is =
    by (make_fault plan.hash (joined plan.parts files)) (make_reason plan.hash (joined plan.parts files)) is
  where
    by : (fault : Option MakeNo) → IsReason fault → unless fault (bytes_of plan (joined plan.parts files)) ≡ Err Memory → ⊥
    by None reason is = cc
    by (Some why) reason is =
        let same : why ≡ Memory = cc in reason (ap Some same)

-- lines are not refused so
lines_reason : (number : ℕ) (draft : Drafted) (lines : List (List ℕ)) → after_lines number draft lines ≡ Err NoMemory → ⊥
lines_reason number draft [] is = cc
lines_reason number draft (line ∷ lines) is =
    by (after_line draft (words_of line)) (λ next e. lines_reason (number + 1) next lines e) is
  where
    by : (one : Result Drafted PlanWhy) → ((next : Drafted) → after_lines (number + 1) next lines ≡ Err NoMemory → ⊥)
        → and_then number one (λ next. after_lines (number + 1) next lines) ≡ Err NoMemory → ⊥
    by (Ok next) rest is = rest next is
    by (Err why) rest is = cc

-- nor a text
pub no_plan : (text : List ℕ) → plan_of_text text ≡ Err NoMemory → ⊥
unfolding plan_of_text
no_plan text is =
    by (after_lines 1 nothing (lines_of text)) (λ e. lines_reason 1 nothing (lines_of text) e) is
  where
    by_entry : (draft : Drafted) (entry : Option ℕ) → plan_by (length (lines_of text)) draft entry ≡ Err NoMemory → ⊥
    by_entry draft None is = cc
    by_entry draft (Some entry) is = cc

    by : (whole : Result Drafted PlanNo) → (whole ≡ Err NoMemory → ⊥)
        → finished (length (lines_of text)) whole ≡ Err NoMemory → ⊥
    by (Ok draft) none is = by_entry draft draft.entry is
    by (Err refusal) none is = let same : refusal ≡ NoMemory = cc in none (ap Err same)
