use Rattle.std.proofs.Common.{ap, ◌∙◌, length, arith, List, ℕ}
use Rattle.std.specs.Prelude.{nat_lt, ◌==◌}
use Rattle.pipe_ends.proofs.WordLemmas.{has_all, lacks}
use Rattle.pipe_ends.proofs.words.has_words.Goals as goal

-- the last of the words has a byte
pub returns-then-word_at-gt0 : goal.returns-then-word_at-gt0
returns-then-word_at-gt0 c =
    let last = ap length c.word_at.ensures.exact in
    record {
      exact = ap (λ (word : List ℕ). length word == 0) c.word_at-then-word_at-gt0.ensures.exact
          ∙ has_all c.args.count c.args.line.now c.requires (omega (arith, last, c.if-word_at-gt0.true));
    }

-- it has none
pub returns-else-word_at-gt0 : goal.returns-else-word_at-gt0
returns-else-word_at-gt0 c =
    let last = ap length c.word_at.ensures.exact in
    record {
      exact = ap (λ (word : List ℕ). nat_lt 0 (length word)) c.word_at.ensures.exact
          ∙ lacks c.args.count c.args.line.now c.requires (omega (arith, last, c.if-word_at-gt0.false));
    }
