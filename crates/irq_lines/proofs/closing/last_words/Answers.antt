use Rattle.std.proofs.Common.{arith}
use Rattle.irq_lines.proofs.Ends.{last_fits}
use Rattle.irq_lines.proofs.closing.last_words.Goals as goal

pub overflow_cast-result : goal.overflow_cast-result
overflow_cast-result c = record {
  fits = last_fits _ _ _ _ 0 c.word-first.result c.requires.both
      c.close_with-closed.ensures.values.2 (omega arith) c.word-first.ensures;
}

pub overflow_cast-result-2 : goal.overflow_cast-result-2
overflow_cast-result-2 c = record {
  fits = last_fits _ _ _ _ 1 c.word-second.result c.requires.both
      c.close_with-closed.ensures.values.2 (omega arith) c.word-second.ensures;
}
