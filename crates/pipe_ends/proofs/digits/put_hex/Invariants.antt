use Rattle.std.proofs.Common.{◌≡◌, ◌+◌, ◌≤◌, ◌++◌, vec_len, vec_capacity}
use Rattle.pipe_ends.specs.Hex.{hex_text}
use Rattle.pipe_ends.proofs.digits.put_hex.Given as goal

abbrev pub invariant-loop-place : goal.invariant-loop-place
invariant-loop-place l =
    (vec_len l.out + l.place ≤ vec_capacity l.out) × (l.place ≤ 16) × (l.out.items ++ hex_text l.place l.n ≡ l.fn.out.items ++ hex_text l.digits l.n)
