use Rattle.core_script.proofs.LineLemmas.{lines_are_script, script_has_lines}
use Rattle.core_script.proofs.laws.scripts_are_their_lines.Goals as goal

-- by its lines
pub returns : goal.returns
returns c = record { exact = λ text actions. (script_has_lines text actions, lines_are_script text actions) }
