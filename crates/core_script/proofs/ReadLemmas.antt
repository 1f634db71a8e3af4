-- The actions of a text, line by line.
use Rattle.std.proofs.Common.{◌≡◌, ℕ, List, ◌∷◌, Result, Err, refl, sym, ap, ◌∙◌}
use Rattle.core_script.specs.declared.action.Action.{Action}
use Rattle.core_script.specs.declared.refusal.ScriptNo.{ScriptNo}
use Rattle.core_script.specs.declared.refusal.ScriptNo.TheVariants.{Bad, Memory}
use Rattle.core_script.specs.ScriptText.{IsRefusedAt, IsScriptOrMemory, after_line, after_lines}
use Rattle.pipe_ends.specs.Words.{words_of}

-- Lines are left, of which the first has this number, and lead to all actions.
module _ (number : ℕ) (actions : List Action) (line : List ℕ) (left rest : List (List ℕ))
    (whole : Result (List Action) ScriptNo) (is : left ≡ line ∷ rest)
    (so_far : after_lines number actions left ≡ whole) where
  -- the line is refused
  pub line_stops : (refusal : ScriptNo) → IsRefusedAt number (after_line actions (words_of line)) refusal
      → IsScriptOrMemory (Err refusal) whole
  line_stops (Bad at why) told =
      let here : after_lines number actions left ≡ Err (Bad number why) = rw (is, told.1) refl in
      ap (λ n. Err (Bad n why)) told.0 ∙ sym here ∙ so_far
  line_stops Memory told = tt
