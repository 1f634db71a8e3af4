-- A store in memory: files in a list, and which calls fail.
use Rattle.std.specs.Prelude.{◌≡◌, ◌≢◌, ℕ, List, [], ◌∷◌, map, refl, Bool, false, nat_eq, All, Any, Some, None}
use Rattle.std.specs.Cmp.Lexicographic.{pointwise}
use Rattle.std.specs.Coded.{Coded, code_by, coded×, coded_ℕ, coded_list}
use Rattle.std.specs.FinMap.{get, insert, from_entries, code}
use Rattle.std.specs.String.{string_bytes}
use Rattle.pipe_ends.specs.declared.file.File.{File}
use Rattle.pipe_ends.specs.Calls.{Counts, counts_code, after_call, fails_next}
use Rattle.pipe_ends.specs.Store.{Files}

-- what a store in memory has: its files, and its calls
pub record StoreState : Type 0 where
  pub files : Files
  pub calls : Counts

-- it is told apart by its two parts
abbrev pub store_code : Coded StoreState
store_code =
    code_by (Files × Counts) (coded× (code (coded_list coded_ℕ) (coded_list coded_ℕ)) counts_code)
    (λ store. (store.files, store.calls))
    (λ parts. record { files = parts.0; calls = parts.1 }) (λ _. refl)

-- the name and the bytes of a file
abbrev pub named_bytes : File → List ℕ × List ℕ
named_bytes file = (string_bytes file.name, file.bytes.items)

-- one more call came, and the files stayed
abbrev pub counted : StoreState → StoreState
counted store = record { files = store.files; calls = after_call store.calls }

-- one more call came, and gave a file these bytes
abbrev pub stored : StoreState → List ℕ → List ℕ → StoreState
stored store name bytes = record {
  files = insert store.files name bytes;
  calls = after_call store.calls;
}

-- the next call does not fail, and there is no file of this name
abbrev pub LacksNext : StoreState → List ℕ → Type 0
LacksNext store name = (fails_next store.calls ≡ false) × (get store.files name ≡ None)

-- whether a file has this name
abbrev pub has_name : List ℕ → File → Bool
has_name name file = pointwise nat_eq (string_bytes file.name) name

-- the files of a list; of two that have one name, the first counts
abbrev pub files_of : List File → Files
files_of files = from_entries (map named_bytes files)

-- none of these files has this name
abbrev pub HasNoneNamed : List ℕ → List File → Type 0
HasNoneNamed name [] = Unit {0}
HasNoneNamed name (file ∷ files) = (string_bytes file.name ≢ name) × HasNoneNamed name files

-- no two of these files have one name
abbrev pub AreDistinct : List File → Type 0
AreDistinct [] = Unit {0}
AreDistinct (file ∷ files) = HasNoneNamed (string_bytes file.name) files × AreDistinct files

-- files that are told just as a list gives them: each of the list by its name, and none besides
pub record TellsJust (told : Files) (files : List File) : Type 0 where
  pub each : All (λ file. get told (string_bytes file.name) ≡ Some file.bytes.items) files
  pub only : (name : List ℕ) → get told name ≢ None
      → Any (λ file. string_bytes file.name ≡ name) files
