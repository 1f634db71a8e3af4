use Rattle.std.proofs.Common.{arith}
use Rattle.std.proofs.lemmas.Grind.{common_steps}
use Rattle.pipe_ends.proofs.HexLemmas.{hex_text-step}
use Rattle.pipe_ends.proofs.digits.put_hex.Goals as goal

-- The digit that is pushed was the first of those that were left.
pub loop-place-preserved : goal.loop-place-preserved
loop-place-preserved c =
    let step = hex_text-step c.args.n c.loop-place.place c.hex_digit.result c.loop-place-test.true c.hex_digit.ensures in (
      omega arith,
      omega arith,
      rw c.push_reserved.ensures.items (grind (arith, common_steps, step)),
    )
