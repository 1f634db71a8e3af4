use Rattle.std.proofs.Common.{◌≡◌, ◌≤◌, ◌-◌, take, drop}
use Rattle.pipe_ends.specs.Words.{word_in, words_from, words_of}
use Rattle.pipe_ends.proofs.words.word_at.Given as goal

-- the word is that of the number that is left, of the word at hand and those to come
abbrev pub invariant-loop-i : goal.invariant-loop-i
invariant-loop-i l = record {
  words : word_in l.left (words_from (take (l.i - l.from) (drop l.from l.line)) (drop l.i l.line)) ≡ word_in l.number (words_of l.line);
  from : l.from ≤ l.i;
}
