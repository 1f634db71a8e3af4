-- Which application the OTA data name.
use Rattle.std.specs.Prelude.{ℕ, zero, suc, length, Option, Some, None}
use Rattle.otadata.specs.declared.entry.Entry.{Entry}
use Rattle.otadata.specs.Choice.{active_of, slot_named}
use Rattle.partition_table.specs.declared.app.App.{App}
use Rattle.partition_table.specs.declared.app.App.TheVariants.{Ota, Factory}
use Rattle.partition_table.specs.Layout.{Places}

-- the application of the slot that an entry names, of the slots of a layout
abbrev pub slot_app : Places → Entry → App
slot_app layout entry = Ota (slot_named entry.seq (length layout.slots))

-- the application named where this entry is the active one, or none is
abbrev pub named_by : Places → Entry → Entry → Option ℕ → App
named_by layout e0 e1 None = Factory
named_by layout e0 e1 (Some zero) = slot_app layout e0
named_by layout e0 e1 (Some (suc n)) = slot_app layout e1

-- the application that the two entries of the OTA data name
unfoldable pub named_of : Places → Entry → Entry → App
named_of layout e0 e1 = named_by layout e0 e1 (active_of e0 e1)
