use Rattle.std.proofs.Common.{◌∙◌}
use Rattle.flash_cli.proofs.WordLemmas.{few_values}
use Rattle.flash_cli.proofs.update_words.value_of.Goals as goal

-- no option with a value is left
pub returns : goal.returns
returns c = record {
  exact = few_values c.args.option.now c.loop-left.left.now c.in_default.len_below
      ∙ c.loop-left.invariant;
}
