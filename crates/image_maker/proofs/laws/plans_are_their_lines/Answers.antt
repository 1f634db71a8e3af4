use Rattle.image_maker.proofs.LineLemmas.{lines_are_plan, plan_has_lines}
use Rattle.image_maker.proofs.laws.plans_are_their_lines.Goals as goal

-- by its lines
pub returns : goal.returns
returns c = record { exact = λ text plan. (plan_has_lines text plan, lines_are_plan text plan) }
