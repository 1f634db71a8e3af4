use Rattle.std.proofs.Common.{◌≡◌, ℕ, ◌+◌, ◌<◌, ◌≤◌, slice_index}
use Rattle.std.specs.Int.{bit_at}
use Rattle.irq_lines.proofs.counts.add_row.Given as goal

-- the lines below this one have their one more, and the others are as they were
abbrev pub invariant-loop-line : goal.invariant-loop-line
invariant-loop-line l =
    ((k : ℕ) → k < l.line → slice_index l.row k ≡ slice_index l.initial.row k + bit_at l.bits k)
    × ((k : ℕ) → l.line ≤ k → slice_index l.row k ≡ slice_index l.initial.row k)
