-- What follows where the script makes no step: what a cut leaves, and so what boots behind each cut of a
-- sweep, is a function of the flash, the image and the tear number, whatever the turns of the cores and
-- the driver.
use Rattle.std.specs.Prelude.{◌≡◌, ◌<◌, ℕ, suc, All, List, [], ◌∷◌, length, Option, Ok}
use Rattle.partition_table.specs.declared.app.App.{App}
use Rattle.partition_table.specs.Layout.{Places}
use Rattle.image_verify.specs.Held.{held}
use Rattle.rollback.specs.Boots.{boots_in}
use Rattle.boot_run.specs.declared.aims.Aim.{Aim}
use Rattle.boot_run.specs.declared.booted.Booted.{Booted}
use Rattle.boot_run.specs.Verified.{Starts}
use Rattle.power_cut.specs.declared.swept.Sweep.{Sweep}
use Rattle.power_cut.specs.declared.outcome.Trial.{Trial}
use Rattle.power_cut.specs.Sweep.{IsSweep}
use Rattle.duo_run.specs.Worker.{worker_steps}
use Rattle.power_cut.specs.declared.legs.LegEnd.TheVariants.{Cut}
use Rattle.update_run.specs.declared.options.Options.{Options}
use Rattle.power_cut.specs.CutFlash.{all_steps, cut_flash}
use Rattle.update_run.specs.Legs.{Confirms, Writes}
use Rattle.update_run.specs.Opening.{AimsIn, Opening, opening_of}
use Rattle.update_run.specs.Updating.{IsUpdate, last_end}

-- an update of these files begins so, with this aim, and its script makes no step
pub record IsSilent (flash image text : List ℕ) (o : Opening) (aim : Aim) : Type 0 where
  pub given : opening_of flash image text ≡ Ok o
  pub bytes : All (λ b. b < 256) image
  pub aims : AimsIn flash o.layout (length image) aim
  pub silent : worker_steps o.rows o.script ≡ []

-- an update that lost its power in step k leaves the flash of its list whose k-th step is torn
abbrev pub CutUpdatesAreByFiles : Type 0
CutUpdatesAreByFiles = (flash image text : List ℕ) (options : Options) (o : Opening) (t : Trial)
    (k : ℕ) → (is : IsUpdate options o t)
    → IsSilent flash image text o is.aim → last_end t.legs.items ≡ Cut k
    → t.flash.items ≡ cut_flash o.layout is.aim image flash options.tear k

-- a sweep of it by this tear number, while this core drives
abbrev pub SweepOf : Opening → ℕ → ℕ → Aim → Sweep → Type 0
SweepOf o driver tear aim s =
    IsSweep (Writes o driver aim) (Confirms o driver) o.layout o.flash tear aim o.image s

-- the answers from the k-th on are those of what boots behind the k-th cut and those behind it
abbrev pub AreBootsFrom : (ℕ → Option (App × List ℕ)) → ℕ → List Booted → Type 0
AreBootsFrom boots k [] = Unit {0}
AreBootsFrom boots k (booted ∷ more) =
    Starts (boots k) booted.app booted.info × AreBootsFrom boots (suc k) more

-- what boots of the flash that a cut in step k leaves
abbrev pub cut_boots : Places → Aim → List ℕ → List ℕ → ℕ → ℕ → Option (App × List ℕ)
cut_boots layout aim image flash tear k =
    boots_in held layout (cut_flash layout aim image flash tear k)

-- a sweep has as many steps as the list of the update, and each of its answers is that of the flash
-- of this list whose k-th step is torn
pub record IsByFiles (layout : Places) (aim : Aim) (image flash : List ℕ) (tear : ℕ) (s : Sweep)
    : Type 0 where
  pub steps : s.steps ≡ length (all_steps layout aim image flash)
  pub places : length s.after.items ≡ s.steps
  pub boots : AreBootsFrom (cut_boots layout aim image flash tear) 1 s.after.items

abbrev pub SilentSweepsAreByFiles : Type 0
SilentSweepsAreByFiles = (flash image text : List ℕ) (o : Opening) (driver tear : ℕ) (aim : Aim)
    (s : Sweep) → driver < 2 → IsSilent flash image text o aim → SweepOf o driver tear aim s
    → IsByFiles o.layout aim image flash tear s

-- so two sweeps of one flash and one image by one tear number have as many steps and the same answers,
-- whatever stands in their scripts and whichever core drives
pub record AreSameSweeps (s t : Sweep) : Type 0 where
  pub boots : ℕ → Option (App × List ℕ)
  pub steps : s.steps ≡ t.steps
  pub places : length s.after.items ≡ length t.after.items
  pub first : AreBootsFrom boots 1 s.after.items
  pub second : AreBootsFrom boots 1 t.after.items

abbrev pub SilentSweepsAreOne : Type 0
SilentSweepsAreOne = (flash image a_text b_text : List ℕ) (a b : Opening)
    (a_driver b_driver tear : ℕ) (a_aim b_aim : Aim) (s t : Sweep) → a_driver < 2 → b_driver < 2
    → IsSilent flash image a_text a a_aim → IsSilent flash image b_text b b_aim
    → SweepOf a a_driver tear a_aim s → SweepOf b b_driver tear b_aim t → AreSameSweeps s t
