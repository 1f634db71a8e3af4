-- What boots of every flash that a loss of power may leave at some moment of an update, and its layout;
-- and that the flash which is put is one of them.
use Rattle.std.proofs.Common.{◌≡◌, ◌⊎◌, ◌∙◌, ◌<◌, inl, inr, ℕ, Bool, true, false, ◌&&◌, All, List, [], ◌∷◌, append-nil, length, Result, Ok, sym, subst}
use Rattle.nor_device.specs.declared.nor.NorFault.{NorFault}
use Rattle.nor_device.specs.Ram.{Ram}
use Rattle.crash_images.specs.Agrees.{Agrees}
use Rattle.crash_images.specs.Crash.{LeftAfter}
use Rattle.crash_images.specs.Cut.{CutDevice, restarted}
use Rattle.crash_images.proofs.AgreesLaws.{agrees_twice}
use Rattle.partition_table.specs.Layout.{layout_in}
use Rattle.mmu_map.specs.Map.{Map}
use Rattle.bus_hub.specs.declared.did.Did.{Did}
use Rattle.bus_hub.specs.Room.{Kept}
use Rattle.flash_steps.specs.Parts.{open_addresses}
use Rattle.update_steps.specs.Beside.{IsApart, StandsBeside}
use Rattle.update_steps.specs.Driver.{driver_steps}
use Rattle.boot_run.specs.declared.aims.Aim.{Aim}
use Rattle.power_cut.specs.declared.legs.Leg.{Leg}
use Rattle.power_cut.specs.declared.legs.Upto.{Upto}
use Rattle.power_cut.specs.declared.legs.Upto.TheVariants.{Confirm}
use Rattle.power_cut.specs.declared.outcome.Trial.{Trial}
use Rattle.power_cut.specs.Leg.{IsLeg, LeavesBehind}
use Rattle.power_cut.specs.Sweep.{IsUntouched}
use Rattle.power_cut.specs.Update.{BootsEither, HoldsRewrite, HoldsUpdate, Opens}
use Rattle.power_cut.specs.Whole.{BehindBoot, BehindSession, BootsNew, IsTrial, is_done, wants_boot, wants_confirm}
use Rattle.boot_run.specs.BootSteps.{boot_steps}
use Rattle.power_cut.proofs.BesideLemmas.{boot_beside, boot_left, booting_beside, rewrite_beside, update_beside}
use Rattle.power_cut.proofs.LaidLemmas.{untouched_layout}
use Rattle.power_cut.proofs.LegLemmas.{holds_behind, left_at_end}
use Rattle.duo_run.specs.Both.{HasTable}
use Rattle.duo_run.proofs.OpeningLemmas.{aimed_opens, table_lays}
use Rattle.update_run.specs.Legs.{Confirms, Writes}
use Rattle.update_run.specs.Moments.{IsLeftBehindBoot, IsLeftBehindSession, IsLeftConfirmed, IsLeftConfirmedBehind, IsLeftIn, KeepsBooting, MayBeLeft, MayBeLeftNew, PutFlashesKeepBooting, PutFlashesMayBeLeft, SweepsBootNew, SweepsKeepBooting, SweptFlashesMayBeLeft, UpdatesBootNew, UpdatesKeepBooting}
use Rattle.update_run.specs.Opening.{AimsIn, Opening}

module _ (o : Opening) (driver : ℕ) (aim : Aim) (apart : IsApart o.layout (open_addresses o.rows))
    (table : HasTable o.rows o.layout o.flash) (opens : Opens o.layout o.flash aim o.image) where
  -- the addresses that no step changes
  abbrev Stays : ℕ → Type 0
  Stays = IsUntouched o.layout aim (open_addresses o.rows)

  -- what agrees there with the flash of the file has its layout
  keeps_layout : (left : List ℕ) → Agrees Stays o.flash left → layout_in left ≡ Ok o.layout
  keeps_layout left agrees =
      untouched_layout o.layout o.flash aim o.image (open_addresses o.rows) opens apart left agrees
      ∙ table_lays o.flash o.rows o.layout table

  behind_boot : (goes : Bool) (legs : List Leg) (dev : CutDevice Ram) (t : Trial)
      → (ends : BehindBoot (Confirms o driver) o.layout o.flash aim o.image goes legs dev t)
      → Agrees Stays o.flash dev.inner.bytes
      → (left : List ℕ) → IsLeftBehindBoot o driver aim goes legs dev t ends left
      → KeepsBooting o aim left
  behind_boot false legs dev t ends before left may = absurd may
  behind_boot true legs dev t ends before left may =
      let holds : HoldsRewrite o.layout dev.inner.bytes ends.write.now (open_addresses o.rows) left =
      ends.confirmed.leg.leg.moments may.before may.later left may.log_is may.leaves in
      record {
        laid = keeps_layout left
            (agrees_twice Stays o.flash dev.inner.bytes left before
            (rewrite_beside o.layout aim (open_addresses o.rows) (length o.flash)
            dev.inner.bytes left ends.write.now opens.placed ends.may.confirming holds));
        boots = ends.moments (open_addresses o.rows) left apart holds;
        some = holds.some;
      }

  behind_session : (goes : Bool) (upto : Upto) (session : Leg) (dev : CutDevice Ram) (t : Trial)
      → (ends : BehindSession (Confirms o driver) o.layout o.flash aim o.image goes upto session
      dev t)
      → Agrees Stays o.flash dev.inner.bytes
      → (left : List ℕ) → IsLeftBehindSession o driver aim goes upto session dev t ends left
      → KeepsBooting o aim left
  behind_session false upto session dev t ends before left may = absurd may
  behind_session true upto session dev t ends before left (inl after) =
      let boots = ends.moments left after in
      record {
        laid = keeps_layout left
            (agrees_twice Stays o.flash dev.inner.bytes left before
            (booting_beside o.layout aim (open_addresses o.rows) (length o.flash)
            dev.inner.bytes left opens.placed after));
        boots = boots.0;
        some = boots.1;
      }
  behind_session true upto session dev t ends before left (inr may) =
      behind_boot (wants_confirm upto && is_done ends.leg.end) (session ∷ ends.leg ∷ []) ends.new t
      ends.behind
      (agrees_twice Stays o.flash dev.inner.bytes ends.new.inner.bytes before
      (boot_beside o.layout aim (open_addresses o.rows) (length o.flash) (restarted dev) ends.new
      ends.leg opens.placed ends.booted))
      left may

  -- at every moment of a session
  in_session : (first left : List ℕ) → first ≡ o.flash
      → HoldsUpdate o.layout first aim o.image (open_addresses o.rows) left
      → Agrees Stays o.flash left
  in_session first left same holds =
      update_beside o.layout aim (open_addresses o.rows) o.flash o.image left opens
      (subst (λ (f : List ℕ). HoldsUpdate o.layout f aim o.image (open_addresses o.rows) left) same
      holds)

  at_any_moment : (device : CutDevice Ram) (upto : Upto) (t : Trial)
      → device.inner.bytes ≡ o.flash
      → (trial : IsTrial (Writes o driver aim device) (Confirms o driver) o.layout o.flash aim
      o.image upto t)
      → (left : List ℕ) → MayBeLeft o driver aim device upto t trial left
      → KeepsBooting o aim left
  at_any_moment device upto t bytes trial left (inl may) =
      let holds : HoldsUpdate o.layout device.inner.bytes aim o.image (open_addresses o.rows) left =
      trial.written.leg.leg.moments may.before may.later left may.log_is may.leaves in
      record {
        laid = keeps_layout left (in_session device.inner.bytes left bytes holds);
        boots = subst (λ (f : List ℕ). BootsEither o.layout f aim o.image left) bytes holds.boots;
        some = holds.some;
      }
  at_any_moment device upto t bytes trial left (inr may) =
      behind_session (wants_boot upto && is_done trial.session.leg.end) upto trial.session.leg
      trial.session.dev t trial.behind
      (in_session device.inner.bytes trial.session.dev.inner.bytes bytes
      (holds_behind _ _ driver _ _ device trial.session.dev trial.session.journal
      trial.written.leg.leg))
      left may

-- ---- once it is announced or confirmed

module _ (o : Opening) (driver : ℕ) (aim : Aim) (apart : IsApart o.layout (open_addresses o.rows))
  where
    once_confirmed : (goes : Bool) (legs : List Leg) (dev : CutDevice Ram) (t : Trial)
        → (ends : BehindBoot (Confirms o driver) o.layout o.flash aim o.image goes legs dev t)
        → (left : List ℕ) → IsLeftConfirmed o driver aim goes legs dev t ends left
        → BootsNew o.layout aim o.image left
    once_confirmed false legs dev t ends left may = absurd may
    once_confirmed true legs dev t ends left may =
        ends.once (open_addresses o.rows) left apart
        (ends.confirmed.leg.behind may.before may.later left may.log_is may.all may.leaves)

    confirmed_behind : (goes : Bool) (upto : Upto) (session : Leg) (dev : CutDevice Ram) (t : Trial)
        → (ends : BehindSession (Confirms o driver) o.layout o.flash aim o.image goes upto session
        dev t)
        → (left : List ℕ) → IsLeftConfirmedBehind o driver aim goes upto session dev t ends left
        → BootsNew o.layout aim o.image left
    confirmed_behind false upto session dev t ends left may = absurd may
    confirmed_behind true upto session dev t ends left may =
        once_confirmed (wants_confirm upto && is_done ends.leg.end) (session ∷ ends.leg ∷ []) ends.new
        t ends.behind left may

    at_a_new_moment : (device : CutDevice Ram) (upto : Upto) (t : Trial)
        → device.inner.bytes ≡ o.flash
        → (trial : IsTrial (Writes o driver aim device) (Confirms o driver) o.layout o.flash aim
        o.image upto t)
        → (left : List ℕ) → MayBeLeftNew o driver aim device upto t trial left
        → BootsNew o.layout aim o.image left
    at_a_new_moment device upto t bytes trial left (inl may) =
        let once = may.1 in
        trial.announced may.0 (open_addresses o.rows) left apart
        (subst (λ (f : List ℕ). StandsBeside f (driver_steps o.layout aim o.image) []
        (open_addresses o.rows) left) bytes
        (trial.written.leg.behind once.before once.later left once.log_is once.all once.leaves))
    at_a_new_moment device upto t bytes trial left (inr may) =
        confirmed_behind (wants_boot upto && is_done trial.session.leg.end) upto trial.session.leg
        trial.session.dev t trial.behind left may

-- ---- the flash that is put

-- the flash behind a leg of both cores may be left at its last moment
module _ {drives works : Result (Unit {0}) NorFault → List Did → Type 0} {driver : ℕ}
    {pages : Map → Type 0} {holds : List ℕ → Type 0} (old new : CutDevice Ram) (journal : Kept)
    (leg : IsLeg drives works driver pages holds old new journal) where
  leg_ends : (left : List ℕ) → left ≡ new.inner.bytes → IsLeftIn leg left
  leg_ends left same = record {
    before = leg.stands.stood.log;
    later = [];
    log_is = sym (append-nil leg.stands.stood.log);
    leaves = subst (λ (f : List ℕ). LeavesBehind leg.base leg.stands.stood.log f) (sym same)
        (left_at_end drives works driver pages holds old new journal leg);
  }

module _ (o : Opening) (driver : ℕ) (aim : Aim) where
  -- it is that of the boot, or may be left of the confirmation
  put_behind_boot : (goes : Bool) (legs : List Leg) (dev : CutDevice Ram) (t : Trial)
      → (ends : BehindBoot (Confirms o driver) o.layout o.flash aim o.image goes legs dev t)
      → (t.flash.items ≡ dev.inner.bytes)
      ⊎ IsLeftBehindBoot o driver aim goes legs dev t ends t.flash.items
  put_behind_boot false legs dev t ends = inl ends.flash_is
  put_behind_boot true legs dev t ends =
      inr (leg_ends dev ends.ran.dev ends.ran.journal ends.confirmed.leg.leg t.flash.items
      ends.ends.flash_is)

  -- it is that of the session, or may be left behind it
  put_behind_session : (goes : Bool) (upto : Upto) (session : Leg) (dev : CutDevice Ram)
      (t : Trial)
      → (ends : BehindSession (Confirms o driver) o.layout o.flash aim o.image goes upto session
      dev t)
      → (t.flash.items ≡ dev.inner.bytes)
      ⊎ IsLeftBehindSession o driver aim goes upto session dev t ends t.flash.items
  put_behind_session false upto session dev t ends = inl ends.flash_is
  put_behind_session true upto session dev t ends =
      inr (elim (put_behind_boot (wants_confirm upto && is_done ends.leg.end)
      (session ∷ ends.leg ∷ []) ends.new t ends.behind) [
        | inl same ↦ inl (subst (λ (f : List ℕ). LeftAfter dev.inner.bytes
            (boot_steps o.layout dev.inner.bytes) f) (sym same)
            (boot_left o.layout (restarted dev) ends.new ends.leg ends.booted))
        | inr may ↦ inr may
      ])

  put_may_be_left : (device : CutDevice Ram) (upto : Upto) (t : Trial)
      → (trial : IsTrial (Writes o driver aim device) (Confirms o driver) o.layout o.flash aim
      o.image upto t)
      → MayBeLeft o driver aim device upto t trial t.flash.items
  put_may_be_left device upto t trial =
      elim (put_behind_session (wants_boot upto && is_done trial.session.leg.end) upto
      trial.session.leg trial.session.dev t trial.behind) [
        | inl same ↦ inl (leg_ends device trial.session.dev trial.session.journal
            trial.written.leg.leg t.flash.items same)
        | inr may ↦ inr may
      ]

-- ---- the laws

-- an update begins on the flash of the file
begins_so : (o : Opening) (aim : Aim) → HasTable o.rows o.layout o.flash
    → All (λ b. b < 256) o.image → AimsIn o.flash o.layout (length o.image) aim
    → Opens o.layout o.flash aim o.image
begins_so o aim table bytes aims =
    aimed_opens o.flash o.rows o.layout aim o.image table bytes aims

pub updates_keep_booting : UpdatesKeepBooting
updates_keep_booting options o t is left may =
    at_any_moment o options.driver is.aim is.apart is.table
    (begins_so o is.aim is.table is.bytes is.aims) is.device options.upto t is.fresh.bytes is.trial
    left may

pub sweeps_keep_booting : SweepsKeepBooting
sweeps_keep_booting tear o s is cut t u left may =
    at_any_moment o 0 is.aim is.apart is.table (begins_so o is.aim is.table is.bytes is.aims) u.dev
    Confirm t u.fresh.bytes u.trial left may

pub put_flashes_may_be_left : PutFlashesMayBeLeft
put_flashes_may_be_left options o t is =
    put_may_be_left o options.driver is.aim is.device options.upto t is.trial

pub swept_flashes_may_be_left : SweptFlashesMayBeLeft
swept_flashes_may_be_left tear o s is cut t u =
    put_may_be_left o 0 is.aim u.dev Confirm t u.trial

pub put_flashes_keep_booting : PutFlashesKeepBooting
put_flashes_keep_booting options o t is =
    updates_keep_booting options o t is t.flash.items (put_flashes_may_be_left options o t is)

pub updates_boot_new : UpdatesBootNew
updates_boot_new options o t is left may =
    at_a_new_moment o options.driver is.aim is.apart is.device options.upto t is.fresh.bytes is.trial
    left may

pub sweeps_boot_new : SweepsBootNew
sweeps_boot_new tear o s is cut t u left may =
    at_a_new_moment o 0 is.aim is.apart u.dev Confirm t u.fresh.bytes u.trial left may
