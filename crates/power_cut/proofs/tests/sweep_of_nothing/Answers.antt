use Rattle.std.proofs.Common.{rules}
use Rattle.power_cut.proofs.SweepLemmas.{nothing_changed, nothing_swept}
use Rattle.power_cut.proofs.tests.sweep_of_nothing.Goals as goal

-- the session writes nothing, and no confirmation answers
pub sweep-requires-clause-runner : goal.sweep-requires-clause-runner
sweep-requires-clause-runner c = record {
  may_write = λ cut dev fresh. search rules;
  written = λ cut dev ran fresh has. nothing_swept _ _ _ _ _ dev fresh c.requires.opens ran
      (search rules) (search rules);
  written_beside = λ cut dev ran fresh has. nothing_changed _ dev ran (search rules);
  may_confirm = λ dev at write may. search rules;
  confirmed = λ dev at write ran may has. absurd (search rules);
  confirmed_beside = λ dev at write ran may has. absurd (search rules);
}
