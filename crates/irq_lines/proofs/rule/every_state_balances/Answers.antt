use Rattle.irq_lines.proofs.Runs.{every_state_is_even}
use Rattle.irq_lines.proofs.rule.every_state_balances.Goals as goal

pub returns : goal.returns
returns c = every_state_is_even
