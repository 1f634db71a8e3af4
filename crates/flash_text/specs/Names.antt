-- The names of states and applications.
use Rattle.std.specs.Prelude.{ℕ, ◌==◌, List, ◌++◌, if◌then◌else◌, codes, decimal, Option, Some, None}
use Rattle.pipe_ends.specs.Hex.{hex_text}
use Rattle.partition_table.specs.declared.app.App.{App}
use Rattle.partition_table.specs.declared.app.App.TheVariants.{Ota, Factory, Test}

-- the name of a state that has one
abbrev pub state_name : ℕ → Option (List ℕ)
state_name state =
    if state == 0 then Some (codes "NEW")
    else (if state == 1 then Some (codes "PENDING_VERIFY")
    else (if state == 2 then Some (codes "VALID")
    else (if state == 3 then Some (codes "INVALID")
    else (if state == 4 then Some (codes "ABORTED")
    else (if state == 4294967295 then Some (codes "UNDEFINED") else None)))))

-- a state by this name, or else by its number in 8 hex digits
abbrev pub name_or_number : Option (List ℕ) → ℕ → List ℕ
name_or_number (Some name) state = name
name_or_number None state = hex_text 8 state

-- a state by its name, or by its number where it has none
unfoldable pub state_text : ℕ → List ℕ
state_text state = name_or_number (state_name state) state

-- an application by its name
unfoldable pub app_text : App → List ℕ
app_text (Ota slot) = codes "ota_" ++ decimal slot
app_text Factory = codes "factory"
app_text Test = codes "test"
