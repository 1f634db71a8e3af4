-- The room in the journal that the actions of a script need at most.
use Rattle.std.specs.Prelude.{ℕ, ◌+◌, ◌*◌, List, [], ◌∷◌}
use Rattle.bus_hub.specs.declared.journal.Room.{Room}
use Rattle.core_script.specs.declared.action.Action.{Action}
use Rattle.core_script.specs.declared.action.Action.TheVariants.{Fetch, Mask, Irq, Map, Unmap, Write, Erase}
use Rattle.core_script.specs.Action.{sectors_in}

-- the entries of an action: its own one, and two for each of its steps. A write is one program,
-- since it stays in a page
abbrev pub entries_in : Action → ℕ
entries_in (Fetch at len) = 1
entries_in (Mask mask) = 1
entries_in (Irq irq) = 1
entries_in (Map space page n) = 1
entries_in (Unmap at) = 1
entries_in (Write label offset bytes) = 3
entries_in (Erase label offset len) = 2 * sectors_in (Erase label offset len) + 1

-- the bytes that it fetches
abbrev pub bytes_in : Action → ℕ
bytes_in (Fetch at len) = len
bytes_in (Mask mask) = 0
bytes_in (Irq irq) = 0
bytes_in (Map space page n) = 0
bytes_in (Unmap at) = 0
bytes_in (Write label offset bytes) = 0
bytes_in (Erase label offset len) = 0

-- the entries of all of them
abbrev pub entries_in_all : List Action → ℕ
entries_in_all [] = 0
entries_in_all (action ∷ later) = entries_in action + entries_in_all later

-- the bytes
abbrev pub bytes_in_all : List Action → ℕ
bytes_in_all [] = 0
bytes_in_all (action ∷ later) = bytes_in action + bytes_in_all later

-- the room of a script
abbrev pub worker_room : List Action → Room
worker_room script = record { entries = entries_in_all script; bytes = bytes_in_all script }
