use Rattle.std.proofs.Common.{◌∙◌}
use Rattle.flash_cli.proofs.WordLemmas.{few_options, option_fails, option_next}
use Rattle.flash_cli.proofs.command.are_options.Goals as goal

-- an option is not known, or comes again
pub returns-then-known-again : goal.returns-then-known-again
returns-then-known-again c = record {
  exact = option_fails _ c.loop-left.left.now c.word-item.result _ _ _ _ c.in-len2-up.len_at_least
      c.word-item.is c.as_str.ensures.value c.as_str-in-len2-up.ensures.value
      c.is_one_of-known.ensures.exact c.has_option-again.ensures.exact c.if-known-again.true
      ∙ c.loop-left.invariant;
}

-- the options so far are known, and come once
pub loop-left-preserved : goal.loop-left-preserved
loop-left-preserved c =
    option_next _ c.loop-left.left.now c.word-item.result _ _ _ _ c.in-len2-up.len_at_least
    c.word-item.is c.as_str.ensures.value c.as_str-in-len2-up.ensures.value
    c.is_one_of-known.ensures.exact c.has_option-again.ensures.exact c.if-known-again.false
    ∙ c.loop-left.invariant

-- all are looked at
pub returns : goal.returns
returns c = record {
  exact = c.is_empty.ensures
      ∙ few_options _ c.loop-left.left.now c.in_default.len_below
      ∙ c.loop-left.invariant;
}
