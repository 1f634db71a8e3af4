use Rattle.std.proofs.Common.{◌∙◌}
use Rattle.flash_cli.proofs.WordLemmas.{few_have}
use Rattle.flash_cli.proofs.command.has_option.Goals as goal

-- no option with a value is left
pub returns : goal.returns
returns c = record {
  exact = few_have c.args.option.now c.loop-left.left.now c.in_default.len_below
      ∙ c.loop-left.invariant;
}
