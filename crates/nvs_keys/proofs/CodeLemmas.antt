-- What the calls on bytes give.
use Rattle.std.proofs.Common.{◌≡◌, ◌≤◌, ℕ, take}
use Rattle.std.specs.Prelude.{replicate}
use Rattle.std.proofs.lemmas.List.{take-replicate}

-- bytes that fill up a place
pub filling : (n : ℕ) → n ≤ 32 → take {A = ℕ} n (replicate {A = ℕ} 32 255) ≡ replicate {A = ℕ} n 255
filling n most = take-replicate {X = ℕ} n 32 255 most
