-- The next multiple of 16.
use Rattle.std.proofs.Common.{ℕ, arith}
use Rattle.image_layout.specs.Footer.{IsLeastAbove, footer_end}

-- it is above, and no other lies between
pub is_least : (n : ℕ) → IsLeastAbove n (footer_end n)
is_least n = record {
  multiple = omega arith;
  above = omega arith;
  least = λ other is above. omega (arith, is, above);
}
