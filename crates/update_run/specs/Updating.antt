-- What an update comes to: its legs, how many steps they have and how the last one ends, and the flash
-- that is left.
use Rattle.std.specs.Prelude.{◌≡◌, ◌≢◌, ◌<◌, ℕ, ◌+◌, nat_le, if◌then◌else◌, All, List, [], ◌∷◌, length, Option, Some, None}
use Rattle.nor_device.specs.Ram.{Ram}
use Rattle.crash_images.specs.Cut.{CutDevice}
use Rattle.boot_select.specs.Boots.{entries_in, images_in}
use Rattle.image_verify.specs.Held.{held}
use Rattle.flash_steps.specs.Parts.{open_addresses}
use Rattle.boot_run.specs.declared.aims.Aim.{Aim}
use Rattle.boot_run.specs.Booted.{IsBoot}
use Rattle.update_steps.specs.Beside.{IsApart}
use Rattle.power_cut.specs.declared.legs.Leg.{Leg}
use Rattle.power_cut.specs.declared.legs.LegEnd.{LegEnd}
use Rattle.power_cut.specs.declared.legs.LegEnd.TheVariants.{Done as DoneEnd, Device, Cut}
use Rattle.power_cut.specs.declared.legs.Upto.TheVariants.{Boot as UptoBoot}
use Rattle.power_cut.specs.declared.outcome.Trial.{Trial}
use Rattle.power_cut.specs.Installed.{installed_flash}
use Rattle.power_cut.specs.StepCount.{IsCounted, update_count}
use Rattle.power_cut.specs.Update.{BootsEither, session_end, slot_size}
use Rattle.power_cut.specs.Whole.{AreDone, BootsNew, IsTrial}
use Rattle.duo_run.specs.Both.{HasTable}
use Rattle.duo_run.specs.Worker.{worker_steps}
use Rattle.update_run.specs.declared.options.Options.{Options}
use Rattle.update_run.specs.Options.{AreOptions, IsChosenDevice}
use Rattle.update_run.specs.Opening.{AimsIn, Opening}
use Rattle.update_run.specs.Legs.{Confirms, Writes}

-- how the last of the legs ended
abbrev pub last_end : List Leg → LegEnd
last_end [] = DoneEnd
last_end (leg ∷ []) = leg.end
last_end (leg ∷ next ∷ legs) = last_end (next ∷ legs)

-- how many steps were begun in legs
abbrev pub steps_in : List Leg → ℕ
steps_in [] = 0
steps_in (leg ∷ legs) = leg.steps + steps_in legs

-- how many steps an update with these options and this aim has, by its files and its words
abbrev pub count_of : Options → Opening → Aim → ℕ
count_of options o aim =
    update_count o.layout aim o.image (worker_steps o.rows o.script) options.upto o.flash

-- how an update of so many steps ends: in the step that was chosen for a loss of power or for a
-- failure, where that was begun; else as one does in which nothing broke off
abbrev pub chosen_end : Option ℕ → Option ℕ → ℕ → LegEnd → LegEnd
chosen_end (Some k) fail steps whole = if nat_le k steps then Cut k else whole
chosen_end None (Some k) steps whole = if nat_le k steps then Device k else whole
chosen_end None None steps whole = whole

-- an update with these options that began so, with the layout by its flash's table and an image of
-- bytes: the session, the boot and the confirmation of a device with the flash, as far as they go,
-- beside a core that writes to nothing that a boot reads.
-- It has as many steps as the files and the words give, and ends in the chosen one where there are
-- so many, which is where that was begun; what boots of the flash that is left; and where all legs
-- were made whole, this flash is a function of the files and the words
pub record IsUpdate (options : Options) (o : Opening) (t : Trial) : Type 0 where
  pub sound : AreOptions options
  pub table : HasTable o.rows o.layout o.flash
  pub bytes : All (λ b. b < 256) o.image
  pub aim : Aim
  pub aims : AimsIn o.flash o.layout (length o.image) aim
  pub device : CutDevice Ram
  pub fresh : IsChosenDevice options o.flash device
  pub trial : IsTrial (Writes o options.driver aim device) (Confirms o options.driver) o.layout
      o.flash aim o.image options.upto t
  pub apart : IsApart o.layout (open_addresses o.rows)
  pub ends : last_end t.legs.items
      ≡ chosen_end options.cut options.fail (count_of options o aim)
      (session_end (slot_size o.layout aim.slot) o.image)
  pub reached : last_end t.legs.items
      ≡ chosen_end options.cut options.fail (steps_in t.legs.items)
      (session_end (slot_size o.layout aim.slot) o.image)
  pub counted : IsCounted options.cut options.fail (steps_in t.legs.items)
      (count_of options o aim)
  pub boots : BootsEither o.layout o.flash aim o.image t.flash.items
  pub after : IsBoot o.layout (images_in held o.layout t.flash.items)
      (entries_in o.layout t.flash.items) (Some t.after)
  pub installed : options.upto ≢ UptoBoot → AreDone t.legs.items
      → BootsNew o.layout aim o.image t.flash.items
  pub leaves : AreDone t.legs.items → t.flash.items
      ≡ installed_flash o.layout aim o.image (worker_steps o.rows o.script) options.upto o.flash
