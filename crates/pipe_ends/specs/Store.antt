-- The files of a store, and what a store that tells them says of one call.
use Rattle.std.specs.Prelude.{◌≡◌, ℕ, List, Option, Some, None, IfSome}
use Rattle.std.specs.Ordering.{nat_cmp}
use Rattle.std.specs.Cmp.Lexicographic.{slice_cmp}
use Rattle.std.specs.FinMap.{FinMap, get, insert}

-- files by the bytes of their names: each name that has a file, with the bytes of that file
abbrev pub Files : Type 0
Files = FinMap (slice_cmp nat_cmp) (List ℕ)

-- where the files are told, the one of this name has these bytes
abbrev pub TellsFile : Option Files → List ℕ → List ℕ → Type 0
TellsFile told name bytes = IfSome told (λ files. get files name ≡ Some bytes)

-- where the files are told, none has this name
abbrev pub TellsNoFile : Option Files → List ℕ → Type 0
TellsNoFile told name = IfSome told (λ files. get files name ≡ None)

-- where the files were told, they are told again: this one has these bytes, each other as it was
abbrev pub TellsPut : Option Files → List ℕ → List ℕ → Option Files → Type 0
TellsPut before name bytes after = IfSome before (λ files. after ≡ Some (insert files name bytes))
