-- What a script is, whatever the order in which its lines are read.
use Rattle.std.specs.Prelude.{◌≡◌, ℕ, ◌≤◌, List, [], ◌∷◌, length, map, Ok, if◌then◌else◌}
use Rattle.pipe_ends.specs.Words.{is_skipped, lines_of, words_of}
use Rattle.core_script.specs.declared.action.Action.{Action}
use Rattle.core_script.specs.Action.{sectors_in_all}
use Rattle.core_script.specs.ScriptText.{action_of}

-- the words of the lines that say something
abbrev pub told_of : List (List ℕ) → List (List (List ℕ))
told_of [] = []
told_of (line ∷ lines) =
    if is_skipped (words_of line) then told_of lines else words_of line ∷ told_of lines

-- a text has these actions: each of its lines that says something has its own, in order, and all
-- keep to the limits
pub record IsScriptOf (text : List ℕ) (actions : List Action) : Type 0 where
  pub lines : map action_of (told_of (lines_of text)) ≡ map Ok actions
  pub few : length actions ≤ 4096
  pub sectors : sectors_in_all actions ≤ 65536
