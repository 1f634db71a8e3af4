-- In which order a bootloader tries the applications, and which one it starts.
use Rattle.std.specs.Prelude.{◌<◌, ℕ, zero, suc, ◌+◌, ◌-◌, Bool, false, List, [], ◌∷◌, ◌++◌, length, slice_get, unwrap_or, Option, Some, None}
use Rattle.std.specs.List.{find}
use Rattle.partition_table.specs.declared.app.App.{App}
use Rattle.partition_table.specs.declared.app.App.TheVariants.{Ota, Factory, Test}
use Rattle.partition_table.specs.declared.row.Row.{Row}
use Rattle.partition_table.specs.Layout.{Places}

-- the applications of the slots below this one, the highest first
unfoldable pub down : ℕ → List App
down zero = []
down (suc slot) = Ota slot ∷ down slot

-- the applications of so many slots from this one on
unfoldable pub up : ℕ → ℕ → List App
up slot zero = []
up slot (suc n) = Ota slot ∷ up (slot + 1) n

-- what is tried before the factory application: the start's slot and those below it
abbrev pub front : App → List App
front (Ota slot) = Ota slot ∷ down slot
front Factory = []
front Test = []

-- the first slot that is tried after the factory application
abbrev pub after_front : App → ℕ
after_front (Ota slot) = slot + 1
after_front Factory = 0
after_front Test = 0

-- the test application, where there is one
abbrev pub tests : Option Row → List App
tests None = []
tests (Some row) = Test ∷ []

-- the applications of a layout in the order in which they are tried, from this one on
unfoldable pub candidates : Places → App → List App
candidates layout start =
    front start ++ (Factory ∷ (up (after_front start) (length layout.slots - after_front start) ++ tests layout.test))

-- an application that the OTA data may name: factory, or that of a slot of the layout
abbrev pub IsStart : Places → App → Type 0
IsStart layout (Ota slot) = slot < length layout.slots
IsStart layout Factory = Unit {0}
IsStart layout Test = ⊥

-- where the truth value of an application stands: 16 slots, factory, test
abbrev pub place_of : App → ℕ
place_of (Ota slot) = slot
place_of Factory = 16
place_of Test = 17

-- whether an application's image is whole, by these truth values
unfoldable pub is_whole : List Bool → App → Bool
is_whole whole app = unwrap_or (slice_get whole (place_of app)) false

-- the first application that is whole, from this one on
unfoldable pub started_from : Places → (App → Bool) → App → Option App
started_from layout whole start = find whole (candidates layout start)
