-- Changes of keys, and the map that they make. A key and a value are lists of bytes.
use Rattle.std.specs.Prelude.{◌≤◌, ◌<◌, ℕ, Bool, false, not, ◌&&◌, ◌||◌, if◌then◌else◌, List, [], ◌∷◌, length, Option, None, Some, IfSome, is_some, All}
use Rattle.std.specs.Ordering.{eq_by_cmp, nat_cmp}
use Rattle.std.specs.Cmp.Lexicographic.{slice_cmp}
use Rattle.std.specs.FinMap as finite

-- the values by their keys
abbrev pub Map : Type 0
Map = finite.FinMap (slice_cmp nat_cmp) (List ℕ)

-- no key has a value
abbrev pub no_keys : Map
no_keys = finite.empty

-- a key, and the value that it gets; with none it is removed
pub record Change : Type 0 where
  pub key : List ℕ
  pub value : Option (List ℕ)

-- a change by its parts
abbrev pub change_of : List ℕ → Option (List ℕ) → Change
change_of key value = record { key = key; value = value }

-- a value has at most 32 bytes
pub record IsValue (value : List ℕ) : Type 0 where
  pub most : length value ≤ 32
  pub bytes : All (λ b. b < 256) value

-- a key has 1 to 16 bytes
pub record IsChange (c : Change) : Type 0 where
  pub least : 1 ≤ length c.key
  pub most : length c.key ≤ 16
  pub bytes : All (λ b. b < 256) c.key
  pub value : IfSome c.value IsValue

-- the map in which a key has this value, or has none
abbrev pub with_value : Map → List ℕ → Option (List ℕ) → Map
with_value m key None = finite.remove m key
with_value m key (Some value) = finite.insert m key value

-- the map after a change
abbrev pub changed : Map → Change → Map
changed m c = with_value m c.key c.value

-- the map after changes, one after the other
abbrev pub map_after : Map → List Change → Map
map_after m [] = m
map_after m (c ∷ cs) = map_after (changed m c) cs

-- two keys are the same
abbrev pub same_key : List ℕ → List ℕ → Bool
same_key a b = eq_by_cmp (slice_cmp nat_cmp) a b

-- one of the changes is of this key
abbrev pub has_key : List ℕ → List Change → Bool
has_key key [] = false
has_key key (c ∷ cs) = same_key key c.key || has_key key cs

-- a change gives a value, and no later one is of its key
abbrev pub is_live : Option Change → List Change → Bool
is_live None later = false
is_live (Some c) later = is_some c.value && not (has_key c.key later)

-- the changes that give the values of the map that all of them make
abbrev pub live : List Change → List Change
live [] = []
live (c ∷ cs) = if is_live (Some c) cs then c ∷ live cs else live cs
