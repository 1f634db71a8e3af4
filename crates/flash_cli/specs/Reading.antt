-- What a command reads: files by name, each name by what was read before it.
use Rattle.std.specs.Prelude.{◌≡◌, ℕ, suc, List, [], ◌∷◌, ◌++◌, Option, Some, None, Result, Ok, Err, IfSome, MatchOption}
use Rattle.std.specs.FinMap.{get}
use Rattle.pipe_ends.specs.Store.{Files}

-- a reading has ended with a value, or asks for the file of a name and goes on by its bytes
pub data Reading (A : Type 0) : Type 0 where
  Ended : A → Reading A
  Asks : List ℕ → (List ℕ → Reading A) → Reading A

-- a reading that asks for the files of these names in order, behind others that were read, and goes
-- on by the bytes of all
abbrev pub asks_all : {A : Type 0} → List (List ℕ) → List (List ℕ) → (List (List ℕ) → Reading A)
    → Reading A
asks_all [] read next = next read
asks_all (name ∷ names) read next = Asks name (λ bytes. asks_all names (read ++ bytes ∷ []) next)

-- the first file that is absent: its number, from 0, of those that were asked for, and its name
pub record Absence : Type 0 where
  pub file : ℕ
  pub name : List ℕ

-- where the files are told, this is what the one of this name holds, or that there is none
abbrev pub TellsAnswer : Option Files → List ℕ → Option (List ℕ) → Type 0
TellsAnswer told name answer = IfSome told (λ files. get files name ≡ answer)

-- A reading, of which this many files were read, comes to its value or to the first file that is
-- absent. The files are those of the store where it tells them. What another store answered may be
-- anything.
abbrev pub ComesTo : {A : Type 0} → Option Files → ℕ → Reading A → Result A Absence → Type 0
ComesTo told number (Ended value) result = result ≡ Ok value
ComesTo told number (Asks name next) result =
    (answer : Option (List ℕ)) × (TellsAnswer told name answer × MatchOption answer
    (result ≡ Err (record { file = number; name = name }))
    (λ bytes. ComesTo told (suc number) (next bytes) result))

-- the one of two values that an answer asks for: for no file, or for its bytes
abbrev pub by_answer : {B : Type 0} → B → (List ℕ → B) → Option (List ℕ) → B
by_answer absent found None = absent
by_answer absent found (Some bytes) = found bytes

-- what a reading comes to in these files
abbrev pub read_in : {A : Type 0} → Files → ℕ → Reading A → Result A Absence
read_in files number (Ended value) = Ok value
read_in files number (Asks name next) =
    by_answer (Err (record { file = number; name = name }))
    (λ bytes. read_in files (suc number) (next bytes)) (get files name)
