-- The bytes that a sink took, and what a sink that tells them says of one push.
use Rattle.std.specs.Prelude.{◌≡◌, ℕ, List, ◌++◌, take, Option, Some, IfSome, IsSomeAnd}

-- the new bytes are the old ones and after them the first of the pushed ones: none, some or all
abbrev pub AppendsSome : List ℕ → List ℕ → List ℕ → Type 0
AppendsSome old bytes new = (n : ℕ) × (new ≡ old ++ take n bytes)

-- where the bytes were told, they are told again, with all of the pushed ones after them
abbrev pub TellsAll : Option (List ℕ) → List ℕ → Option (List ℕ) → Type 0
TellsAll before bytes after = IfSome before (λ old. after ≡ Some (old ++ bytes))

-- where the bytes were told, they are told again, with the first of the pushed ones after them
abbrev pub TellsSome : Option (List ℕ) → List ℕ → Option (List ℕ) → Type 0
TellsSome before bytes after = IfSome before (λ old. IsSomeAnd after (AppendsSome old bytes))
