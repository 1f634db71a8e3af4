use Rattle.std.proofs.Common.{ap, sym, ◌∙◌, arith}
use Rattle.pipe_ends.specs.Words.{word_in}
use Rattle.pipe_ends.proofs.WordLemmas.{word_goes_on}
use Rattle.pipe_ends.proofs.words.word_at.Goals as goal

-- a byte that joins the word at hand
pub loop-i-preserved-then-not-is_blank : goal.loop-i-preserved-then-not-is_blank
loop-i-preserved-then-not-is_blank c =
    let inv = c.loop-i.invariant in
    let other = sym c.is_blank.ensures.exact ∙ c.if-not-is_blank.true in
    record {
      words = sym (ap (word_in c.loop-i.left) (word_goes_on c.loop-i.from c.loop-i.i c.args.line.now c.loop-i-test.true inv.from other))
          ∙ inv.words;
      from = omega arith;
    }
