use Rattle.std.proofs.Common.{◌≡◌, ℕ, ◌+◌, ◌<◌, ◌≤◌, slice_index}
use Rattle.irq_lines.proofs.counts.add_numbers.Given as goal

-- the lines below this one have the other row's numbers too, and the others are as they were
abbrev pub invariant-loop-line : goal.invariant-loop-line
invariant-loop-line l =
    ((k : ℕ) → k < l.line → slice_index l.row k ≡ slice_index l.initial.row k + slice_index l.more k)
    × ((k : ℕ) → l.line ≤ k → slice_index l.row k ≡ slice_index l.initial.row k)
