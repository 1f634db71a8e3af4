-- The legs of an update by the steps that each core was to make, and how many of them they begin.
use Rattle.std.proofs.Common.{◌≡◌, ◌≤◌, ◌<◌, inl, inr, Bool, ℕ, ◌+◌, ◌-◌, ◌^◌, List, [], ◌∷◌, ◌++◌, length, length-append, Option, Some, Result, Ok, Err, ap, subst, arith}
use Rattle.core_state.specs.Registers.{reset}
use Rattle.nor_device.specs.declared.step.Step.{Step}
use Rattle.nor_device.specs.declared.nor.NorFault.{NorFault}
use Rattle.nor_device.specs.declared.nor.NorFault.TheVariants.{Failed, Off}
use Rattle.nor_device.specs.Nor.{one_more}
use Rattle.nor_device.specs.Ram.{Ram}
use Rattle.crash_images.specs.Cut.{CutDevice, IsAhead}
use Rattle.mmu_map.specs.Map.{Map}
use Rattle.partition_table.specs.declared.row.Row.{Row}
use Rattle.partition_table.specs.Layout.{IsPlaced, Places}
use Rattle.rollback.specs.declared.rewrite.Rewrite.{Rewrite}
use Rattle.bus_hub.specs.declared.did.Did.{Did}
use Rattle.bus_hub.specs.Room.{Kept}
use Rattle.boot_run.specs.declared.aims.Aim.{Aim}
use Rattle.boot_run.specs.declared.booted.Booted.{Booted}
use Rattle.boot_run.specs.Made.{AreMadeBy, AreMissed, StopsAt, count_after}
use Rattle.boot_run.specs.Rewriting.{rewrite}
use Rattle.core_script.specs.declared.action.Action.{Action}
use Rattle.update_steps.specs.Driver.{driver_steps}
use Rattle.ota_session.specs.Course.{Confirm, Confirms, Install}
use Rattle.ota_session.specs.Stages.{confirm_moves, session_moves}
use Rattle.power_cut.specs.declared.legs.Leg.{Leg}
use Rattle.power_cut.specs.declared.legs.LegEnd.{LegEnd}
use Rattle.power_cut.specs.declared.legs.LegEnd.TheVariants.{Done, Device, Cut, FirstByte, Empty, Bad}
use Rattle.power_cut.specs.declared.legs.Ran.{Ran}
use Rattle.power_cut.specs.Device.{BrokeAt, HasEnd, IsUnbroken, IsWholeEnd, MayEnd, MayRefuse, MayTear, MustRefuse, setting_of}
use Rattle.power_cut.specs.Kept.{IsConfirmLeg, IsSessionLeg}
use Rattle.power_cut.specs.Leg.{IsLeg}
use Rattle.power_cut.specs.Update.{Opens, image_of, session_end, slot_size}
use Rattle.power_cut.specs.Whole.{IsBootLeg, end_by}
use Rattle.boot_run.specs.BootSteps.{boot_steps}
use Rattle.duo_run.specs.Legs.{ConfirmShare, SessionShare}
use Rattle.duo_run.specs.Pages.{probe_in}
use Rattle.duo_run.specs.Worker.{WorkerShare, worker_steps}
use Rattle.duo_run.proofs.BeginLemmas.{moves_steps}
use Rattle.duo_run.proofs.LegCountLemmas.{leg_all, leg_few}
use Rattle.duo_run.proofs.TakenLemmas.{HasTaken, moved_taken, worker_taken}

-- ---- by steps alone

-- whatever a leg shows of the flash
abbrev pub AnyMap : Map → Type 0
AnyMap m = Unit {0}

-- a session in which the driver was to make the steps of the update, and the other core these
abbrev pub TakenSession : Places → (ℕ → Bool) → Aim → List ℕ → List Step → ℕ → CutDevice Ram → Ran
    → Type 0
TakenSession layout others aim image work driver old ran =
    IsSessionLeg (HasTaken (driver_steps layout aim image)) (HasTaken work) driver AnyMap layout
    others aim image old ran

-- a confirmation in which the driver was to make those of a rewrite, and the other core these
abbrev pub TakenConfirm : Places → (ℕ → Bool) → Rewrite → List Step → ℕ → CutDevice Ram → Ran
    → Type 0
TakenConfirm layout others write work driver old ran =
    IsConfirmLeg (HasTaken (rewrite layout.otadata write)) (HasTaken work) driver AnyMap layout
    others write old ran

-- a leg by other words on its shares
leg_by : (drives works so_drives so_works : Result (Unit {0}) NorFault → List Did → Type 0)
    (driver : ℕ) (pages : Map → Type 0) (holds : List ℕ → Type 0) (old new : CutDevice Ram)
    (journal : Kept)
    → ((r : Result (Unit {0}) NorFault) (share : List Did) → drives r share → so_drives r share)
    → ((r : Result (Unit {0}) NorFault) (share : List Did) → works r share → so_works r share)
    → IsLeg drives works driver pages holds old new journal
    → IsLeg so_drives so_works driver AnyMap holds old new journal
leg_by drives works so_drives so_works driver pages holds old new journal drove worked l = record {
  base = l.base;
  map = l.map;
  opening = l.opening;
  mapped = tt;
  left = l.left;
  right = l.right;
  drove = l.drove;
  worked = l.worked;
  driver_share = drove l.drove _ l.driver_share;
  worker_share = worked l.worked _ l.worker_share;
  back = l.back;
  same = l.same;
  stands = l.stands;
  legal = l.legal;
  moments = l.moments;
}

module _ (rows : List Row) (script : List Action) (driver : ℕ) (pages : Map → Type 0)
    (layout : Places) (others : ℕ → Bool) where
  pub session_taken : (aim : Aim) (image : List ℕ) (old : CutDevice Ram) (ran : Ran)
      → Opens layout old.inner.bytes aim image
      → IsSessionLeg (SessionShare layout aim image) (WorkerShare rows reset script) driver pages
      layout others aim image old ran
      → TakenSession layout others aim image (worker_steps rows script) driver old ran
  unfolding leg_by
  session_taken aim image old ran opens is = record {
    ran_is = is.ran_is;
    leg = leg_by _ _ _ _ driver pages _ old ran.dev ran.journal
        (λ r share moved. moved_taken 0 reset
        (session_moves layout aim (probe_in aim.info.segments.items) image)
        (driver_steps layout aim image) r share
        (moves_steps layout old.inner.bytes (Install aim image) (probe_in aim.info.segments.items)
        opens.placed (record { old = image_of layout old.inner.bytes aim.running; opens = opens }))
        moved)
        (worker_taken rows script) is.leg;
    both = is.both;
    done = is.done;
    behind = is.behind;
  }

  pub confirm_taken : (at : Booted) (write : Rewrite) (old : CutDevice Ram) (ran : Ran)
      → IsPlaced layout (length old.inner.bytes) → Confirms layout old.inner.bytes write
      → IsConfirmLeg (ConfirmShare layout at write) (WorkerShare rows reset script) driver pages
      layout others write old ran
      → TakenConfirm layout others write (worker_steps rows script) driver old ran
  unfolding leg_by
  confirm_taken at write old ran placed confirms is = record {
    ran_is = is.ran_is;
    leg = leg_by _ _ _ _ driver pages _ old ran.dev ran.journal
        (λ r share moved. moved_taken 0 reset
        (confirm_moves layout write (probe_in at.info.segments.items))
        (rewrite layout.otadata write) r share
        (moves_steps layout old.inner.bytes (Confirm write) (probe_in at.info.segments.items)
        placed confirms) moved)
        (worker_taken rows script) is.leg;
    both = is.both;
    done = is.done;
    behind = is.behind;
  }

-- ---- how many they begin

-- a leg begins no more than so many steps, and so many where nothing broke off
pub record CountsTo (old new : CutDevice Ram) (leg : Leg) (n : ℕ) : Type 0 where
  pub few : leg.steps ≤ n
  pub all : IsUnbroken old new.steps → leg.steps ≡ n

-- the number of the last step is still to come
not_ahead : (chosen : Option ℕ) (before now k : ℕ) → BrokeAt chosen before now k
    → IsAhead chosen now → ⊥
not_ahead chosen before now k broke ahead =
    let later : now < k = subst (λ c. IsAhead c now) broke.chosen_is ahead in
    let last = broke.last in omega (arith, later, last)

-- where no chosen step was begun, the leg did not break off
pub unbroken_whole : (old : CutDevice Ram) (now : ℕ) (whole end : LegEnd) → IsUnbroken old now
    → HasEnd old now whole end → IsWholeEnd end
unbroken_whole old now whole Done ahead has = tt
unbroken_whole old now whole (Device k) ahead has =
    not_ahead old.fail old.steps now k has ahead.fail_ahead
unbroken_whole old now whole (Cut k) ahead has =
    not_ahead old.cut old.steps now k has ahead.cut_ahead
unbroken_whole old now whole (FirstByte byte) ahead has = tt
unbroken_whole old now whole Empty ahead has = tt
unbroken_whole old now whole (Bad why) ahead has = tt

module _ (layout : Places) (others : ℕ → Bool) (work : List Step) (driver : ℕ)
    (below : driver < 2) (old : CutDevice Ram) (ran : Ran) where
  -- a session
  pub session_counts : (aim : Aim) (image : List ℕ)
      → TakenSession layout others aim image work driver old ran
      → old.steps + (length (driver_steps layout aim image) + length work) < 2 ^ 64 - 1
      → CountsTo old ran.dev ran.leg (length (driver_steps layout aim image) + length work)
  session_counts aim image is small =
      let steps = is.ran_is.steps in
      record {
        few =
            let few = leg_few _ _ driver AnyMap _ old ran.dev ran.journal is.leg below
            (driver_steps layout aim image) work is.leg.driver_share is.leg.worker_share in
            omega (arith, few, steps);
        all = λ ahead.
            let both = is.both (unbroken_whole old ran.dev.steps
            (session_end (slot_size layout aim.slot) image) ran.leg.end ahead is.ran_is.end) in
            let all = leg_all _ _ driver AnyMap _ old ran.dev ran.journal is.leg below
            (driver_steps layout aim image) work is.leg.driver_share is.leg.worker_share small
            both.0 both.1 in
            omega (arith, all, steps);
      }

  -- a confirmation, of which the rewrite has two steps
  pub confirm_counts : (write : Rewrite) → TakenConfirm layout others write work driver old ran
      → old.steps + (2 + length work) < 2 ^ 64 - 1
      → CountsTo old ran.dev ran.leg (2 + length work)
  confirm_counts write is small =
      let steps = is.ran_is.steps in
      record {
        few =
            let few = leg_few _ _ driver AnyMap _ old ran.dev ran.journal is.leg below
            (rewrite layout.otadata write) work is.leg.driver_share is.leg.worker_share in
            omega (arith, few, steps);
        all = λ ahead.
            let both = is.both (unbroken_whole old ran.dev.steps Done ran.leg.end ahead
            is.ran_is.end) in
            let all = leg_all _ _ driver AnyMap _ old ran.dev ran.journal is.leg below
            (rewrite layout.otadata write) work is.leg.driver_share is.leg.worker_share small
            both.0 both.1 in
            omega (arith, all, steps);
      }

-- ---- a boot

count_few : (n : ℕ) (steps : List Step) → count_after n steps ≤ n + length steps
count_few n [] = omega arith
count_few n (step ∷ steps) =
    let later = count_few (one_more n) steps in
    let one : one_more n ≤ n + 1 = grind arith in omega (arith, later, one)

count_all : (n : ℕ) (steps : List Step) → n + length steps < 2 ^ 64 - 1
    → count_after n steps ≡ n + length steps
count_all n [] small = omega arith
count_all n (step ∷ steps) small =
    let one : one_more n ≡ n + 1 = grind (arith, small) in
    let later = count_all (n + 1) steps (omega (arith, small)) in
    let here = ap (λ m. count_after m steps) one in omega (arith, later, here)

module _ (layout : Places) (old new : CutDevice Ram) (leg : Leg)
    (boot : IsBootLeg layout old new leg) where
  abbrev steps : List Step
  steps = boot_steps layout old.inner.bytes

  -- where a call was refused or a step broken off, no more were begun than there are
  stops_few : (made rest : List Step) (why : NorFault) → steps ≡ made ++ rest
      → StopsAt MayEnd MayTear MayRefuse MustRefuse (setting_of old) made rest old.steps new.steps
      (Some old.inner.bytes) (Some new.inner.bytes) why
      → new.steps ≤ old.steps + length steps
  stops_few made [] why split stops =
      let few = count_few old.steps made in
      let counted = stops.counted in
      let all = ap (λ (l : List Step). length l) split in
      let both = length-append made [] in omega (arith, few, counted, all, both)
  stops_few made (step ∷ rest) why split (inl stops) =
      let few = count_few old.steps made in
      let counted = stops.counted in
      let all = ap (λ (l : List Step). length l) split in
      let both = length-append made (step ∷ rest) in omega (arith, few, counted, all, both)
  stops_few made (step ∷ rest) why split (inr stops) =
      let few = count_few old.steps made in
      let counted = stops.counted in
      let one : one_more (count_after old.steps made) ≤ count_after old.steps made + 1 =
      grind arith in
      let all = ap (λ (l : List Step). length l) split in
      let both = length-append made (step ∷ rest) in omega (arith, few, counted, one, all, both)

  -- a boot
  pub boot_counts : old.steps + length steps < 2 ^ 64 - 1 → CountsTo old new leg (length steps)
  boot_counts small = by boot.answer boot.made boot.end
    where
      number : new.steps ≡ old.steps + leg.steps
      number = boot.ran.steps

      missed : (why : NorFault)
          → AreMissed MayEnd MayTear MayRefuse MustRefuse (setting_of old) steps old.steps new.steps
          (Some old.inner.bytes) (Some new.inner.bytes) why
          → leg.steps ≤ length steps
      missed why made =
          let few = stops_few made.made made.rest why made.split made.stops in
          omega (arith, few, number)

      broken : (end : LegEnd) → leg.end ≡ end → (IsWholeEnd end → ⊥)
          → IsUnbroken old new.steps → ⊥
      broken end is never ahead =
          never (subst IsWholeEnd is (unbroken_whole old new.steps Done leg.end ahead boot.ran.end))

      by : (answer : Result (Option Booted) NorFault)
          → AreMadeBy MayEnd MayTear MayRefuse MustRefuse (setting_of old) steps old.steps new.steps
          (Some old.inner.bytes) (Some new.inner.bytes) answer
          → leg.end ≡ end_by new.steps answer → CountsTo old new leg (length steps)
      by (Ok booted) made is =
          let counted = made.counted in
          let all = count_all old.steps steps small in
          let same : leg.steps ≡ length steps = omega (arith, counted, all, number) in
          record { few = omega (arith, same); all = λ ahead. same }
      by (Err Failed) made is = record {
        few = missed Failed made;
        all = λ ahead. absurd (broken (Device new.steps) is (λ never. never) ahead);
      }
      by (Err Off) made is = record {
        few = missed Off made;
        all = λ ahead. absurd (broken (Cut new.steps) is (λ never. never) ahead);
      }
