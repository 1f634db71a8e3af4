-- The plan of a text, line by line.
use Rattle.std.proofs.Common.{◌≡◌, ℕ, ◌+◌, List, [], ◌∷◌, length, Result, Ok, Err, refl, sym, ap, ◌∙◌, arith}
use Rattle.image_maker.specs.declared.refusal.PlanNo.{PlanNo}
use Rattle.image_maker.specs.declared.refusal.PlanNo.TheVariants.{Bad, Memory}
use Rattle.image_maker.specs.Plan.{Planned}
use Rattle.image_maker.specs.PlanText.{Drafted, IsPlanOrMemory, IsRefusedAt, after_line, after_lines, finished, nothing, plan_by, plan_of_text}
use Rattle.pipe_ends.specs.Words.{lines_of, words_of}

-- Lines are left, of which the first has this number, and lead to the whole draft.
module _ (number : ℕ) (draft : Drafted) (line : List ℕ) (left rest : List (List ℕ)) (whole : Result Drafted PlanNo)
    (is : left ≡ line ∷ rest) (so_far : after_lines number draft left ≡ whole) where
  -- the line is taken
  pub line_passes : (next : Drafted) → after_line draft (words_of line) ≡ Ok next → after_lines (number + 1) next rest ≡ whole
  line_passes next told =
      let here : after_lines number draft left ≡ after_lines (number + 1) next rest = rw (is, told) refl in
      sym here ∙ so_far

  -- the line is refused
  pub line_stops : (count : ℕ) (refusal : PlanNo) → IsRefusedAt number (after_line draft (words_of line)) refusal
      → IsPlanOrMemory (Err refusal) (finished count whole)
  line_stops count (Bad at why) told =
      let here : after_lines number draft left ≡ Err (Bad number why) = rw (is, told.1) refl in
      ap (λ n. Err (Bad n why)) told.0 ∙ ap (finished count) (sym here ∙ so_far)
  line_stops count Memory told = tt

-- where no line is left, the plan of the draft is that of the text
pub plan_at_end : (text left : List ℕ) (number : ℕ) (draft : Drafted) (answer : Result Planned PlanNo)
    → lines_of left ≡ []
    → after_lines (number + 1) draft (lines_of left) ≡ after_lines 1 nothing (lines_of text)
    → number + length (lines_of left) ≡ length (lines_of text)
    → answer ≡ plan_by number draft draft.entry
    → IsPlanOrMemory answer (plan_of_text text)
unfolding plan_of_text
plan_at_end text left number draft answer none lines count told =
    let drafts : after_lines 1 nothing (lines_of text) ≡ Ok draft = sym lines ∙ ap (after_lines (number + 1) draft) none in
    let all : length (lines_of text) ≡ number = omega (arith, count, ap length none) in
    let whole : answer ≡ plan_of_text text = told ∙ sym (λ i. finished (all i) (drafts i)) in
    by answer (plan_of_text text) whole
  where
    by : (answer meant : Result Planned PlanNo) → answer ≡ meant → IsPlanOrMemory answer meant
    by (Ok plan) meant is = is
    by (Err (Bad line why)) meant is = is
    by (Err Memory) meant is = tt
