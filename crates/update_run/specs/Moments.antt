-- The flashes that a loss of power may leave at some moment of an update, and what boots of them.
use Rattle.std.specs.Prelude.{◌≡◌, ◌≢◌, ◌⊎◌, ℕ, Bool, true, false, ◌&&◌, List, [], ◌∷◌, ◌++◌, Option, None, Result, Ok}
use Rattle.nor_device.specs.declared.nor.NorFault.{NorFault}
use Rattle.nor_device.specs.declared.step.Step.{Step}
use Rattle.nor_device.specs.Ram.{Ram}
use Rattle.crash_images.specs.Crash.{LeftAfter}
use Rattle.crash_images.specs.Cut.{CutDevice}
use Rattle.partition_table.specs.Layout.{layout_in}
use Rattle.rollback.specs.Boots.{boots_in}
use Rattle.image_verify.specs.Held.{held}
use Rattle.mmu_map.specs.Map.{Map}
use Rattle.bus_hub.specs.declared.did.Did.{Did}
use Rattle.bus_hub.specs.Log.{Item, of_core}
use Rattle.bus_hub.specs.Room.{Kept}
use Rattle.bus_hub.specs.Shares.{made}
use Rattle.boot_run.specs.declared.aims.Aim.{Aim}
use Rattle.boot_run.specs.Rewriting.{rewrite}
use Rattle.update_steps.specs.Driver.{driver_steps}
use Rattle.power_cut.specs.declared.legs.Leg.{Leg}
use Rattle.power_cut.specs.declared.legs.LegEnd.TheVariants.{Done}
use Rattle.power_cut.specs.declared.legs.Upto.{Upto}
use Rattle.power_cut.specs.declared.legs.Upto.TheVariants.{Confirm}
use Rattle.power_cut.specs.declared.outcome.Trial.{Trial}
use Rattle.power_cut.specs.declared.swept.Sweep.{Sweep as Swept}
use Rattle.power_cut.specs.Leg.{IsLeg, LeavesBehind}
use Rattle.power_cut.specs.Update.{BootsEither, session_end, slot_size}
use Rattle.power_cut.specs.Whole.{BehindBoot, BehindSession, BootsNew, IsTrial, is_done, wants_boot, wants_confirm}
use Rattle.boot_run.specs.BootSteps.{boot_steps}
use Rattle.update_run.specs.declared.options.Options.{Options}
use Rattle.update_run.specs.Legs.{Confirms, Writes}
use Rattle.update_run.specs.Opening.{Opening}
use Rattle.update_run.specs.Sweeping.{IsSwept, IsSweptUpdate}
use Rattle.update_run.specs.Updating.{IsUpdate}

-- a loss of power at a moment of a leg of both cores may leave this flash: behind a first part of the
-- leg's log
module _ {drives works : Result (Unit {0}) NorFault → List Did → Type 0} {driver : ℕ}
    {pages : Map → Type 0} {holds : List ℕ → Type 0} {old new : CutDevice Ram} {journal : Kept}
  where
    pub record IsLeftIn (leg : IsLeg drives works driver pages holds old new journal)
        (left : List ℕ) : Type 0 where
      pub before : List Item
      pub later : List Item
      pub log_is : leg.stands.stood.log ≡ before ++ later
      pub leaves : LeavesBehind leg.base before left

    -- behind one in which the driver has made all of these steps
    pub record IsLeftOnce (leg : IsLeg drives works driver pages holds old new journal)
        (steps : List Step) (left : List ℕ) : Type 0 where
      pub before : List Item
      pub later : List Item
      pub log_is : leg.stands.stood.log ≡ before ++ later
      pub all : made (of_core driver before) ≡ steps
      pub leaves : LeavesBehind leg.base before left

module _ (o : Opening) (driver : ℕ) (aim : Aim) where
  -- at a moment of the confirmation, where there was one
  abbrev pub IsLeftBehindBoot : (goes : Bool) (legs : List Leg) (dev : CutDevice Ram) (t : Trial)
      → BehindBoot (Confirms o driver) o.layout o.flash aim o.image goes legs dev t → List ℕ
      → Type 0
  IsLeftBehindBoot false legs dev t ends left = ⊥
  IsLeftBehindBoot true legs dev t ends left = IsLeftIn ends.confirmed.leg.leg left

  -- at a moment of the boot, where there was one, or of the confirmation behind it
  abbrev pub IsLeftBehindSession : (goes : Bool) (upto : Upto) (session : Leg)
      (dev : CutDevice Ram) (t : Trial)
      → BehindSession (Confirms o driver) o.layout o.flash aim o.image goes upto session dev t
      → List ℕ → Type 0
  IsLeftBehindSession false upto session dev t ends left = ⊥
  IsLeftBehindSession true upto session dev t ends left =
      LeftAfter dev.inner.bytes (boot_steps o.layout dev.inner.bytes) left
      ⊎ IsLeftBehindBoot (wants_confirm upto && is_done ends.leg.end)
      (session ∷ ends.leg ∷ []) ends.new t ends.behind left

  -- at some moment of an update that this trial is: of its session, its boot or its confirmation
  abbrev pub MayBeLeft : (device : CutDevice Ram) (upto : Upto) (t : Trial)
      → IsTrial (Writes o driver aim device) (Confirms o driver) o.layout o.flash aim o.image upto t
      → List ℕ → Type 0
  MayBeLeft device upto t trial left =
      IsLeftIn trial.written.leg.leg left
      ⊎ IsLeftBehindSession (wants_boot upto && is_done trial.session.leg.end) upto
      trial.session.leg trial.session.dev t trial.behind left

  -- once both steps of the confirmation are made, where there was one
  abbrev pub IsLeftConfirmed : (goes : Bool) (legs : List Leg) (dev : CutDevice Ram) (t : Trial)
      → BehindBoot (Confirms o driver) o.layout o.flash aim o.image goes legs dev t → List ℕ
      → Type 0
  IsLeftConfirmed false legs dev t ends left = ⊥
  IsLeftConfirmed true legs dev t ends left =
      IsLeftOnce ends.confirmed.leg.leg (rewrite o.layout.otadata ends.write.now) left

  abbrev pub IsLeftConfirmedBehind : (goes : Bool) (upto : Upto) (session : Leg)
      (dev : CutDevice Ram) (t : Trial)
      → BehindSession (Confirms o driver) o.layout o.flash aim o.image goes upto session dev t
      → List ℕ → Type 0
  IsLeftConfirmedBehind false upto session dev t ends left = ⊥
  IsLeftConfirmedBehind true upto session dev t ends left =
      IsLeftConfirmed (wants_confirm upto && is_done ends.leg.end) (session ∷ ends.leg ∷ [])
      ends.new t ends.behind left

  -- at a moment of an update that this trial is: of its session, once all steps of an image that is
  -- whole are made, or of its confirmation, once both are
  abbrev pub MayBeLeftNew : (device : CutDevice Ram) (upto : Upto) (t : Trial)
      → IsTrial (Writes o driver aim device) (Confirms o driver) o.layout o.flash aim o.image upto t
      → List ℕ → Type 0
  MayBeLeftNew device upto t trial left =
      ((session_end (slot_size o.layout aim.slot) o.image ≡ Done)
      × IsLeftOnce trial.written.leg.leg (driver_steps o.layout aim o.image) left)
      ⊎ IsLeftConfirmedBehind (wants_boot upto && is_done trial.session.leg.end) upto
      trial.session.leg trial.session.dev t trial.behind left

-- a flash has the layout of the file by its own table; one of both applications boots of it, but for
-- chance, seen from the flash of the file; and some application boots in every case
pub record KeepsBooting (o : Opening) (aim : Aim) (left : List ℕ) : Type 0 where
  pub laid : layout_in left ≡ Ok o.layout
  pub boots : BootsEither o.layout o.flash aim o.image left
  pub some : boots_in held o.layout left ≢ None

-- so of every flash that a loss of power may leave at some moment of an update
abbrev pub UpdatesKeepBooting : Type 0
UpdatesKeepBooting = (options : Options) (o : Opening) (t : Trial) (is : IsUpdate options o t)
    (left : List ℕ)
    → MayBeLeft o options.driver is.aim is.device options.upto t is.trial left
    → KeepsBooting o is.aim left

-- and of each update of a sweep
abbrev pub SweepsKeepBooting : Type 0
SweepsKeepBooting = (tear : ℕ) (o : Opening) (s : Swept) (is : IsSwept tear o s) (cut : Option ℕ)
    (t : Trial) (u : IsSweptUpdate o 0 tear is.aim cut t) (left : List ℕ)
    → MayBeLeft o 0 is.aim u.dev Confirm t u.trial left → KeepsBooting o is.aim left

-- the flash that an update puts is one of them, and so is that which each update of a sweep leaves
abbrev pub PutFlashesMayBeLeft : Type 0
PutFlashesMayBeLeft = (options : Options) (o : Opening) (t : Trial) (is : IsUpdate options o t)
    → MayBeLeft o options.driver is.aim is.device options.upto t is.trial t.flash.items

abbrev pub SweptFlashesMayBeLeft : Type 0
SweptFlashesMayBeLeft = (tear : ℕ) (o : Opening) (s : Swept) (is : IsSwept tear o s)
    (cut : Option ℕ) (t : Trial) (u : IsSweptUpdate o 0 tear is.aim cut t)
    → MayBeLeft o 0 is.aim u.dev Confirm t u.trial t.flash.items

-- so it has the layout of the file, and boots
abbrev pub PutFlashesKeepBooting : Type 0
PutFlashesKeepBooting = (options : Options) (o : Opening) (t : Trial) (is : IsUpdate options o t)
    → KeepsBooting o is.aim t.flash.items

-- and once the new application is announced, or confirmed, it boots, whatever the other core does
-- behind that
abbrev pub UpdatesBootNew : Type 0
UpdatesBootNew = (options : Options) (o : Opening) (t : Trial) (is : IsUpdate options o t)
    (left : List ℕ) → MayBeLeftNew o options.driver is.aim is.device options.upto t is.trial left
    → BootsNew o.layout is.aim o.image left

abbrev pub SweepsBootNew : Type 0
SweepsBootNew = (tear : ℕ) (o : Opening) (s : Swept) (is : IsSwept tear o s) (cut : Option ℕ)
    (t : Trial) (u : IsSweptUpdate o 0 tear is.aim cut t) (left : List ℕ)
    → MayBeLeftNew o 0 is.aim u.dev Confirm t u.trial left → BootsNew o.layout is.aim o.image left
