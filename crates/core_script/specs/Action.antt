-- The bounds of an action.
use Rattle.std.specs.Prelude.{ℕ, ◌+◌, ◌%◌, ◌≤◌, ◌≡◌, List, [], ◌∷◌, length, ⊤}
use Rattle.std.specs.Int.{div_ceil}
use Rattle.std.specs.List.{AllByRecursion}
use Rattle.core_script.specs.declared.action.Action.{Action}
use Rattle.core_script.specs.declared.action.Action.TheVariants.{Fetch, Mask, Irq, Map, Unmap, Write, Erase}

-- the numbers of an action are those that a line may have
abbrev pub IsInBounds : Action → Type 0
IsInBounds (Fetch at len) = (1 ≤ len) × (len ≤ 256)
IsInBounds (Mask mask) = mask ≤ 3
IsInBounds (Irq irq) = ⊤
IsInBounds (Map space page n) = (1 ≤ n) × (n ≤ 64) × (page + n ≤ 256)
IsInBounds (Unmap at) = ⊤
IsInBounds (Write label offset bytes) =
    (1 ≤ length bytes) × (offset % 256 + length bytes ≤ 256)
IsInBounds (Erase label offset len) = 1 ≤ len

-- how many sectors of 4096 bytes an action erases, at most: those of its length, rounded up
abbrev pub sectors_in : Action → ℕ
sectors_in (Fetch at len) = 0
sectors_in (Mask mask) = 0
sectors_in (Irq irq) = 0
sectors_in (Map space page n) = 0
sectors_in (Unmap at) = 0
sectors_in (Write label offset bytes) = 0
sectors_in (Erase label offset len) = div_ceil len 4096

-- how many sectors actions erase, at most
abbrev pub sectors_in_all : List Action → ℕ
sectors_in_all [] = 0
sectors_in_all (action ∷ actions) = sectors_in action + sectors_in_all actions

-- what holds of the actions of a script, which erase so many sectors
pub record IsWithin (actions : List Action) (count : ℕ) : Type 0 where
  pub bounds : AllByRecursion IsInBounds actions
  pub few : length actions ≤ 4096
  pub counted : count ≡ sectors_in_all actions
  pub most : count ≤ 65536
