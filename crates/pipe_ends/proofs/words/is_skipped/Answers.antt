use Rattle.std.proofs.Common.{◌≡◌, ap, sym, ◌∙◌, length, arith, true, refl}
use Rattle.std.specs.Prelude.{◌==◌}
use Rattle.std.proofs.lemmas.Bool.Decides.{nat_tests}
use Rattle.pipe_ends.specs.Words.{is_skipped, words_of}
use Rattle.pipe_ends.proofs.WordLemmas.{ends_before}
use Rattle.pipe_ends.proofs.words.is_skipped.Goals as goal

-- there is no word
pub returns-then-key-eq0 : goal.returns-then-key-eq0
unfolding is_skipped
returns-then-key-eq0 c =
    let none = ends_before 0 c.args.line.now (ap length (sym c.word_at-key.ensures.exact) ∙ c.if-key-eq0.true) in
    let test : (length (words_of c.args.line.now) == 0) ≡ true = grind (arith, nat_tests, none) in
    let key : (length c.word_at-key.result.now == 0) ≡ true = grind (arith, nat_tests, c.if-key-eq0.true) in
    record { exact = rw (test, key) refl }
