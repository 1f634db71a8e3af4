-- What the OTA data of a flash choose, and what boots of it.
use Rattle.std.specs.Prelude.{ℕ, List, length, Option, Some, None, Result, Ok, Err}
use Rattle.partition_table.specs.declared.app.App.{App}
use Rattle.partition_table.specs.Layout.{Places}
use Rattle.otadata.specs.Entry.{entry_in}
use Rattle.boot_select.specs.Choice.{named_of}
use Rattle.image_verify.specs.Held.{held}
use Rattle.rollback.specs.Boots.{boots_in}
use Rattle.flash_text.specs.declared.refusal.Refusal.{Refusal}
use Rattle.flash_text.specs.declared.refusal.Refusal.TheVariants.{NoApplication}
use Rattle.flash_cli.specs.declared.choice.Choice.{Choice}
use Rattle.flash_cli.specs.Laid.{laid}

-- the entries of a flash with this layout, what they name, and that this application boots, whose
-- image is so long
unfoldable pub choice_with : List ℕ → Places → App → ℕ → Choice
choice_with flash layout boots long =
    let first = entry_in flash layout.otadata 0 in
    let second = entry_in flash layout.otadata 1 in
    record {
      first = first;
      second = second;
      app = named_of layout first second;
      boots = boots;
      length = long;
    }

-- the choice of a flash of which this boots; refused where nothing does
abbrev pub choice_by : List ℕ → Places → Option (App × List ℕ) → Result Choice Refusal
choice_by flash layout None = Err NoApplication
choice_by flash layout (Some booted) = Ok (choice_with flash layout booted.0 (length booted.1))

-- what a flash with this layout chooses; refused where nothing boots of it
unfoldable pub choice_in : List ℕ → Places → Result Choice Refusal
choice_in flash layout = choice_by flash layout (boots_in held layout flash)

-- what a flash chooses by its layout, where it has one
abbrev pub choice_from : List ℕ → Result Places Refusal → Result Choice Refusal
choice_from flash (Ok layout) = choice_in flash layout
choice_from flash (Err why) = Err why

-- what a flash chooses, or the first refusal: its size, its table, that nothing boots
unfoldable pub choice_of : List ℕ → Result Choice Refusal
choice_of flash = choice_from flash (laid flash)
