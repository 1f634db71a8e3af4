-- What follows from the clauses of the top call, over every call.
use Rattle.std.specs.Prelude.{◌≡◌, ℕ, ◌<◌, All, List, [], take, drop, Option, Some, None, IsSome, Ok}
use Rattle.pipe_ends.specs.Fault.{Rose}
use Rattle.pipe_ends.specs.Store.{Files}
use Rattle.pipe_ends.specs.Sink.{TellsAll}
use Rattle.partition_table.specs.declared.app.App.TheVariants.{Factory}
use Rattle.partition_table.specs.declared.row.Row.{Row}
use Rattle.partition_table.specs.Layout.{Places, layout_in}
use Rattle.boot_select.specs.Boots.{entries_in, names}
use Rattle.image_verify.specs.Held.{held}
use Rattle.rollback.specs.Boots.{boots_in}
use Rattle.flash_text.specs.declared.refusal.Refusal.{Refusal}
use Rattle.flash_cli.specs.declared.status.Status.{Status}
use Rattle.flash_cli.specs.declared.status.Status.TheVariants.{Done, Usage, Refused, StoreFault, SinkFault}
use Rattle.flash_cli.specs.Command.{Command, ImageMake, ImageCheck}
use Rattle.flash_cli.specs.Answer.{TellsPuts, files_after}
use Rattle.flash_cli.specs.FlashMake.{made_flash}
use Rattle.flash_cli.specs.Status.{IsWork, IsWorkOrMemory, IsUsageOrUntold, IsDevices}
use Rattle.flash_cli.specs.Report.{EndsWhole, outcome_in}

-- only words that are no command are a matter of usage
abbrev pub UsageIsOfNoCommand : Type 0
UsageIsOfNoCommand = (told put : Option Files) (command : Option Command) (before after : Option (List ℕ))
    → EndsWhole told command Usage put before after → command ≡ None

-- words that are no command are a matter of usage, unless the sink failed or memory ran out
abbrev pub NoCommandIsUsage : Type 0
NoCommandIsUsage = (told put : Option Files) (command : Option Command) (status : Status)
    (before after : Option (List ℕ))
    → command ≡ None
    → (IsWork status → EndsWhole told command status put before after)
    → (status ≡ StoreFault → IsSome command) → (IsDevices status → ⊥)
    → IsUsageOrUntold status

-- a call that ends whole has the status, the files and the text that its words come to in these
-- files
pub record EndsAsIn (files : Files) (command : Option Command) (status : Status)
    (put : Option Files) (before after : Option (List ℕ)) : Type 0 where
  pub ends : status ≡ (outcome_in files command).status
  pub puts : TellsPuts (Some files) (outcome_in files command).answer.puts put
  pub text : TellsAll before (outcome_in files command).answer.text after

-- where the files are told, the words and the files determine how a call ends whole
abbrev pub ToldFilesDetermine : Type 0
ToldFilesDetermine = (files : Files) (put : Option Files) (command : Option Command) (status : Status)
    (before after : Option (List ℕ))
    → EndsWhole (Some files) command status put before after
    → EndsAsIn files command status put before after

-- a refused command puts nothing
abbrev pub RefusedPutsNothing : Type 0
RefusedPutsNothing = (told put : Option Files) (command : Option Command) (why : Refusal)
    (before after : Option (List ℕ))
    → EndsWhole told command (Refused why) put before after → TellsPuts told [] put

-- where neither count of faults rose, the work came to its end, or memory ran out
abbrev pub FaultlessIsWork : Type 0
FaultlessIsWork = (status : Status) (stores_before stores_now sinks_before sinks_now : ℕ)
    → (status ≡ StoreFault → Rose stores_before stores_now)
    → (status ≡ SinkFault → Rose sinks_before sinks_now) → (IsDevices status → ⊥)
    → (Rose stores_before stores_now → ⊥) → (Rose sinks_before sinks_now → ⊥)
    → IsWorkOrMemory status

-- where image-make was carried out, image-check of the file that it put is carried out too
abbrev pub MadeIsWhole : Type 0
MadeIsWhole = (files : Files) (plan out : List ℕ)
    → (outcome_in files (Some (ImageMake plan out))).status ≡ Done
    → (outcome_in (files_after files (outcome_in files (Some (ImageMake plan out))).answer.puts)
    (Some (ImageCheck out))).status ≡ Done

-- the bytes of a partition of a flash
abbrev pub slot_of : Row → List ℕ → List ℕ
slot_of row flash = take row.size (drop row.offset flash)

-- A flash is as it is written at a factory: it has a layout by its own table, the factory partition
-- holds this image, the OTA data name factory, and it boots with this image.
pub record IsFactoryFlash (flash image : List ℕ) : Type 0 where
  pub layout : Places
  pub laid : layout_in flash ≡ Ok layout
  pub holds : held (slot_of layout.factory flash) ≡ Some image
  pub named : names layout (entries_in layout flash) ≡ Factory
  pub boots : boots_in held layout flash ≡ Some (Factory, image)

-- the flash that is made of the bytes of a table file and an image is one
abbrev pub MadeIsFactoryFlash : Type 0
MadeIsFactoryFlash = (size : ℕ) (image flash table : List ℕ) → All (λ b. b < 256) table
    → made_flash table image size ≡ Ok flash → IsFactoryFlash flash image
