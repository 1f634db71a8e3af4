use Rattle.std.proofs.Common.{rules}
use Rattle.power_cut.proofs.tests.sweep_without_memory.Goals as goal

-- no leg answers
pub sweep-requires-clause-runner : goal.sweep-requires-clause-runner
sweep-requires-clause-runner c = record {
  may_write = λ cut dev fresh. search rules;
  written = λ cut dev ran fresh has. absurd (search rules);
  written_beside = λ cut dev ran fresh has. absurd (search rules);
  may_confirm = λ dev at write may. search rules;
  confirmed = λ dev at write ran may has. absurd (search rules);
  confirmed_beside = λ dev at write ran may has. absurd (search rules);
}
