-- The room of a script, action by action.
use Rattle.std.proofs.Common.{◌≡◌, ℕ, ◌+◌, ◌*◌, ◌≤◌, List, [], ◌∷◌, length, drop, Some, ap, add-one, arith}
use Rattle.std.specs.List.{slice_get}
use Rattle.core_script.specs.declared.action.Action.{Action}
use Rattle.core_script.specs.declared.action.Action.TheVariants.{Fetch, Mask, Irq, Map, Unmap, Write, Erase}
use Rattle.core_script.specs.Action.{IsInBounds, sectors_in, sectors_in_all}
use Rattle.duo_run.specs.Room.{entries_in, bytes_in, entries_in_all, bytes_in_all}
use Rattle.duo_run.proofs.WorkLemmas.{drop_at}

-- an action has three entries at most, and two for each sector
entries_few : (action : Action) → entries_in action ≤ 3 + 2 * sectors_in action
entries_few (Fetch at len) = omega arith
entries_few (Mask mask) = omega arith
entries_few (Irq irq) = omega arith
entries_few (Map space page n) = omega arith
entries_few (Unmap at) = omega arith
entries_few (Write label offset bytes) = omega arith
entries_few (Erase label offset len) = omega arith

pub entries_most : (script : List Action)
    → entries_in_all script ≤ 3 * length script + 2 * sectors_in_all script
entries_most [] = omega arith
entries_most (action ∷ later) =
    let a = entries_few action in
    let b = entries_most later in omega arith

-- it fetches 256 bytes at most
bytes_few : (action : Action) → IsInBounds action → bytes_in action ≤ 256
bytes_few (Fetch at len) bounds = bounds.1
bytes_few (Mask mask) bounds = omega arith
bytes_few (Irq irq) bounds = omega arith
bytes_few (Map space page n) bounds = omega arith
bytes_few (Unmap at) bounds = omega arith
bytes_few (Write label offset bytes) bounds = omega arith
bytes_few (Erase label offset len) bounds = omega arith

-- the room of so many actions of a script, with that of the others
pub record IsCounted (script : List Action) (i entries bytes : ℕ) : Type 0 where
  pub entries_are : entries + entries_in_all (drop i script) ≡ entries_in_all script
  pub bytes_are : bytes + bytes_in_all (drop i script) ≡ bytes_in_all script
  pub bytes_most : bytes ≤ 256 * i

pub counted_first : (script : List Action) → IsCounted script 0 0 0
counted_first script =
    record { entries_are = omega arith; bytes_are = omega arith; bytes_most = omega arith }

pub counted_next : (script : List Action) (i entries bytes : ℕ) (action : Action)
    → slice_get script i ≡ Some action → IsInBounds action → IsCounted script i entries bytes
    → IsCounted script (i + 1) (entries + entries_in action) (bytes + bytes_in action)
counted_next script i entries bytes action is bounds c =
    let here = drop_at script i action is in
    let a = ap entries_in_all here in
    let b = ap bytes_in_all here in
    let few = bytes_few action bounds in
    let x = c.entries_are in
    let y = c.bytes_are in
    let z = c.bytes_most in
    rw add-one (record {
      entries_are = omega arith;
      bytes_are = omega arith;
      bytes_most = omega arith;
    })
