-- A leg of both cores, from what the cores did and the device that came back.
use Rattle.std.proofs.Common.{◌≡◌, ◌⊎◌, inl, inr, ℕ, zero, suc, ◌-◌, ◌<◌, Bool, true, false, List, [], ◌∷◌, ◌++◌, length, Option, Some, None, IfOk, IsOk, Result, Ok, Err, refl, sym, ap, ◌∙◌, subst, arith, append-nil}
use Rattle.std.specs.Prelude.{◌==◌, if◌then◌else◌}
use Rattle.core_state.specs.declared.registers.Regs.{Regs}
use Rattle.core_state.specs.Registers.{reset}
use Rattle.core_state.specs.Sharing.{in_order}
use Rattle.atomic_table.specs.Seated.{TableId}
use Rattle.nor_device.specs.declared.nor.NorFault.{NorFault}
use Rattle.nor_device.specs.Ram.{Ram}
use Rattle.crash_images.specs.declared.cut.CutSetting.{CutSetting}
use Rattle.crash_images.specs.Cut.{CutDevice, IsAhead, IsBad}
use Rattle.partition_table.specs.declared.row.Row.{Row}
use Rattle.partition_table.specs.Layout.{Places}
use Rattle.image_verify.specs.declared.bad.BadImage.{BadImage}
use Rattle.image_verify.specs.declared.info.SegmentNote.{SegmentNote}
use Rattle.image_verify.specs.Bad.{bad}
use Rattle.mmu_map.specs.Map.{Map}
use Rattle.bus_hub.specs.declared.did.Base.{Base}
use Rattle.bus_hub.specs.declared.did.Did.{Did}
use Rattle.bus_hub.specs.declared.duty.AnyDuty.{AnyDuty}
use Rattle.bus_hub.specs.Hub.{IsBaseOf}
use Rattle.bus_hub.specs.Legal.{IsLegal}
use Rattle.bus_hub.specs.Log.{Item, of_core}
use Rattle.bus_hub.specs.Room.{Kept, empty_journal}
use Rattle.bus_hub.specs.Shares.{made}
use Rattle.bus_hub.proofs.Forgetting.{free_base}
use Rattle.cache_gate.specs.Own.{IsFirst, OnBase, Own}
use Rattle.core_script.specs.declared.action.Action.{Action}
use Rattle.flash_steps.specs.Parts.{open_addresses}
use Rattle.flash_ops.specs.declared.refusal.StepNo.{StepNo}
use Rattle.flash_ops.specs.declared.refusal.StepNo.TheVariants as steps
use Rattle.flash_ops.specs.Moves.{Move, Ran as HasMoved}
use Rattle.flash_ops.specs.Told.{fault_of}
use Rattle.flash_ops.proofs.Runs.{made_follows}
use Rattle.update_steps.specs.Beside.{StandsBeside}
use Rattle.ota_session.specs.Course.{Confirm, Course, Grants, Install, IsGood, Purpose, course_after, part_of, steps_for}
use Rattle.ota_session.specs.DutyLaws.{made_good, torn_good}
use Rattle.ota_session.specs.SessionTold.{cause_of}
use Rattle.ota_session.proofs.MomentLemmas.{free_moment_stands}
use Rattle.ota_session.proofs.ReadLemmas.{stands_beside, stands_good}
use Rattle.power_cut.specs.declared.legs.LegEnd.{LegEnd}
use Rattle.power_cut.specs.declared.legs.LegEnd.TheVariants as ends
use Rattle.power_cut.specs.declared.legs.Ran.{Ran}
use Rattle.power_cut.specs.Device.{HasEnd, IsRan, IsUnbroken, IsWholeEnd, MayEnd, MayRefuse, MayTear, MustRefuse, told_bytes, faults_of, is_off, setting_of}
use Rattle.power_cut.specs.Leg.{AnyGrants, IsAnyGood, IsLeg, LeavesBehind, any_after, any_duty, any_part, bus_behind, share_of}
use Rattle.power_cut.specs.Update.{sealed_end, session_end, slot_size}
use Rattle.power_cut.proofs.LegLemmas.{leg_of}
use Rattle.power_cut.proofs.LogLemmas.{bus_told, share_refused}
use Rattle.duo_run.specs.Both.{HaveRun, IsClosed, IsDuoLeg, MayBegin, StandsFor, leg_base, whole_by}
use Rattle.duo_run.specs.Driving.{ended_as}
use Rattle.duo_run.specs.Jobs.{DriverShare, HasDriven, HoldsFor, end_for, moves_for}
use Rattle.duo_run.specs.Pages.{application_pages, probe_in}
use Rattle.duo_run.specs.Parked.{IsParkedRun}
use Rattle.duo_run.specs.Worker.{ShareFrom, WorkerShare}
use Rattle.duo_run.specs.Works.{HasWorked}
use Rattle.duo_run.proofs.BeginLemmas.{begins_steps}
use Rattle.duo_run.proofs.HoldsLemmas.{IsOf, good_holds, stays_of}
use Rattle.duo_run.proofs.ShareEndLemmas.{HasRefusal, stopped_refused, stops_refused}

-- a run of both cores, by the shares of driver and other core
same_shares : (driver : ℕ) → driver < 2 → (left right left' right' : List Did)
    → share_of driver left right ≡ share_of driver left' right'
    → share_of (1 - driver) left right ≡ share_of (1 - driver) left' right'
    → IsParkedRun left' right' → IsParkedRun left right
same_shares zero small left right left' right' a b run =
    subst (λ (z : List Did × List Did). IsParkedRun z.0 z.1) (λ i. (sym a i, sym b i)) run
same_shares (suc zero) small left right left' right' a b run =
    subst (λ (z : List Did × List Did). IsParkedRun z.0 z.1) (λ i. (sym b i, sym a i)) run
same_shares (suc (suc d)) small left right left' right' a b run = absurd (omega arith)

-- ---- ends

-- the end of a leg in which nothing broke off is a whole one
sealed_whole : (found : Option BadImage) → IsWholeEnd (sealed_end found)
sealed_whole None = tt
sealed_whole (Some why) = tt

session_whole : (size : ℕ) (image : List ℕ) → IsWholeEnd (session_end size image)
session_whole size [] = tt
session_whole size (byte ∷ bytes) = by (byte == 0xE9)
  where
    by : (mark : Bool) → IsWholeEnd
        (if mark then sealed_end (bad size (byte ∷ bytes)) else ends.FirstByte byte)
    by true = sealed_whole (bad size (byte ∷ bytes))
    by false = tt

end_whole : (layout : Places) (purpose : Purpose) → IsWholeEnd (end_for layout purpose)
end_whole layout (Install aim image) = session_whole (slot_size layout aim.slot) image
end_whole layout (Confirm write) = tt

-- a whole leg did not come to a chosen step
unbroken_by : (old : CutDevice Ram) (now : ℕ) (whole end : LegEnd) → IsWholeEnd end
    → HasEnd old now whole end → IsUnbroken old now
unbroken_by old now whole ends.Done is has = has.0
unbroken_by old now whole (ends.Device k) is has = absurd is
unbroken_by old now whole (ends.Cut k) is has = absurd is
unbroken_by old now whole (ends.FirstByte byte) is has = has.0
unbroken_by old now whole ends.Empty is has = has.0
unbroken_by old now whole (ends.Bad why) is has = has.0

ahead_not : (chosen : Option ℕ) (n : ℕ) → IsAhead chosen n → chosen ≡ Some n → ⊥
ahead_not None n ahead is = cc
ahead_not (Some k) n ahead is = let same : k ≡ n = cc in omega arith

not_bad : (old : CutDevice Ram) (n : ℕ) → IsUnbroken old n → IsBad old.cut old.fail n → ⊥
not_bad old n is (inl cut) = ahead_not old.cut n is.cut_ahead cut
not_bad old n is (inr fail) = ahead_not old.fail n is.fail_ahead fail

-- ---- both cores of a whole leg came to their ends

module _ (rows : List Row) (script : List Action) (driver : ℕ) (layout : Places)
    (purpose : Purpose) (probe : Option ℕ) (pages : Map → Type 0) (holds : List ℕ → Type 0)
    (old new : CutDevice Ram) (journal : Kept) (two : driver < 2)
    (leg : IsLeg (DriverShare layout purpose probe) (WorkerShare rows reset script) driver pages
    holds
    old new journal) (sound : IsUnbroken old new.steps) where
  core_did : (c : ℕ) → c < 2 → of_core c leg.stands.stood.log ≡ share_of c leg.left leg.right
  core_did zero small = leg.stands.stood.left_is
  core_did (suc zero) small = leg.stands.stood.right_is
  core_did (suc (suc c)) small = absurd (omega arith)

  none_refused : (c : ℕ) → c < 2 → HasRefusal (share_of c leg.left leg.right) → ⊥
  none_refused c small r =
      not_bad old new.steps sound
      (subst (λ (n : ℕ). IsBad old.cut old.fail n) leg.same.steps
      (subst (λ (set : CutSetting (Unit {0})). IsBad set.cut set.fail leg.back.steps)
      leg.opening.setting_is
      (share_refused any_part AnyGrants any_after IsAnyGood
      (bus_behind leg.back leg.map journal) leg.base leg.left leg.right leg.stands c
      (share_of c leg.left leg.right) r.front r.back r.did (core_did c small) r.is r.refusal)))

  drove_whole : leg.drove ≡ Ok tt
  drove_whole = by leg.drove leg.driver_share
    where
      by : (r : Result (Unit {0}) NorFault)
          → DriverShare layout purpose probe r (share_of driver leg.left leg.right) → r ≡ Ok tt
      by (Ok u) share = refl
      by (Err why) share = absurd (none_refused driver two
          (stops_refused 0 reset why (moves_for layout purpose probe)
          (share_of driver leg.left leg.right) share))

  worked_whole : leg.worked ≡ Ok tt
  worked_whole = by leg.worked leg.worker_share
    where
      by : (r : Result (Unit {0}) NorFault)
          → WorkerShare rows reset script r (share_of (1 - driver) leg.left leg.right) → r ≡ Ok tt
      by (Ok u) share = refl
      by (Err why) share = absurd (none_refused (1 - driver) (omega arith)
          (stopped_refused rows why 1 reset script (share_of (1 - driver) leg.left leg.right)
          share))

-- ---- the leg

module _ (rows : List Row) (script : List Action) (driver : ℕ) (layout : Places)
    (purpose : Purpose) (offset : ℕ) (notes : List SegmentNote) (dev : CutDevice Ram)
    (begins : MayBegin rows layout purpose offset notes dev) (two : driver < 2) where
  abbrev base : Base (CutSetting (Unit {0})) Course
  base = leg_base rows script driver layout purpose offset notes dev

  abbrev Core : Type 0
  Core = Own (Base (CutSetting (Unit {0})) Course) Did

  abbrev moves : List Move
  moves = moves_for layout purpose (probe_in notes)

  driver_after : (c : ℕ) (words : TableId) (o p : Core) (r : Result LegEnd StepNo)
      → IsFirst words c base o → HasDriven layout purpose (probe_in notes) r o p
      → (p.base ≡ Some base)
      × DriverShare layout purpose (probe_in notes) (ended_as r) p.share
  driver_after c words o p r first x =
      let regs : o.regs ≡ reset = ap (λ (z : Core). z.regs) first in
      let empty : o.share ≡ [] = ap (λ (z : Core). z.share) first in
      let share : p.share ≡ x.ran.items = ap (λ (z : Core). z.share) x.ran.adds.is
      ∙ ap (λ (l : List Did). l ++ x.ran.items) empty in (
        ap (λ (z : Core). z.base) x.ran.adds.is ∙ ap (λ (z : Core). z.base) first,
        subst (λ (l : List Did). HasMoved 0 reset moves (ended_as r) l) (sym share)
            (subst (λ (g : Regs). HasMoved 0 g moves (ended_as r) x.ran.items) regs x.ran.ran),
      )

  worker_after : (c : ℕ) (words : TableId) (o p : Core) (r : Result (Unit {0}) StepNo)
      → IsFirst words c base o → HasWorked rows script (fault_of r) o p
      → (p.base ≡ Some base) × WorkerShare rows reset script (fault_of r) p.share
  worker_after c words o p r first x =
      let regs : o.regs ≡ reset = ap (λ (z : Core). z.regs) first in
      let empty : o.share ≡ [] = ap (λ (z : Core). z.share) first in
      let share : p.share ≡ x.items = ap (λ (z : Core). z.share) x.adds.is
      ∙ ap (λ (l : List Did). l ++ x.items) empty in (
        ap (λ (z : Core). z.base) x.adds.is ∙ ap (λ (z : Core). z.base) first,
        subst (λ (l : List Did). ShareFrom rows 1 reset script (fault_of r) l) (sym share)
            (subst (λ (g : Regs). ShareFrom rows 1 g script (fault_of r) x.items) regs x.share),
      )

  -- both shares, and how the driver ended
  record Shares (left right : Core) (driven : Result LegEnd StepNo)
      (worked : Result (Unit {0}) StepNo) : Type 0 where
    left_base : left.base ≡ Some base
    drove : DriverShare layout purpose (probe_in notes) (ended_as driven)
        (share_of driver left.share right.share)
    works : WorkerShare rows reset script (fault_of worked)
        (share_of (1 - driver) left.share right.share)
    end : IfOk driven (λ end. end ≡ end_for layout purpose)

  shares_at : (d : ℕ) → d ≡ driver → d < 2 → (words : TableId) (first second left right : Core)
      (driven : Result LegEnd StepNo) (worked : Result (Unit {0}) StepNo)
      → IsFirst words 0 base first → IsFirst words 1 base second
      → HaveRun d layout purpose notes rows script driven worked first second left right
      → Shares left right driven worked
  shares_at zero is small words first second left right driven worked one other run =
      let a = driver_after 0 words first left driven one run.0 in
      let b = worker_after 1 words second right worked other run.1 in
      record {
        left_base = a.0;
        drove = subst (λ (c : ℕ). DriverShare layout purpose (probe_in notes) (ended_as driven)
            (share_of c left.share right.share)) is a.1;
        works = subst (λ (c : ℕ). WorkerShare rows reset script (fault_of worked)
            (share_of (1 - c) left.share right.share)) is b.1;
        end = run.0.end;
      }
  shares_at (suc zero) is small words first second left right driven worked one other run =
      let a = driver_after 1 words second right driven other run.0 in
      let b = worker_after 0 words first left worked one run.1 in
      record {
        left_base = b.0;
        drove = subst (λ (c : ℕ). DriverShare layout purpose (probe_in notes) (ended_as driven)
            (share_of c left.share right.share)) is a.1;
        works = subst (λ (c : ℕ). WorkerShare rows reset script (fault_of worked)
            (share_of (1 - c) left.share right.share)) is b.1;
        end = run.0.end;
      }
  shares_at (suc (suc d)) is small words first second left right driven worked one other run =
      absurd (omega arith)

  module _ (left right : Core) (driven : Result LegEnd StepNo)
      (worked : Result (Unit {0}) StepNo) (ran : Ran)
      (closed : IsClosed dev.steps (whole_by driven) left right ran)
      (run : IsParkedRun left.share right.share) (shares : Shares left right driven worked) where
    abbrev last : ℕ
    last = ran.dev.steps

    stands : StandsFor closed.bus base left.share right.share
    stands = subst (λ (o : Option (Base (CutSetting (Unit {0})) Course)). OnBase o (λ b.
        StandsFor closed.bus b left.share right.share)) shares.left_base closed.stands

    legal : IsLegal closed.bus.journal.entries
    legal = subst (λ (o : Option (Base (CutSetting (Unit {0})) Course)). OnBase o (λ b.
        IsLegal closed.bus.journal.entries)) shares.left_base closed.legal

    ordered : (d : ℕ) → d < 2
        → in_order (StandsFor closed.bus base) d (share_of d left.share right.share)
        (share_of (1 - d) left.share right.share)
    ordered zero small = stands
    ordered (suc zero) small = stands
    ordered (suc (suc d)) small = absurd (omega arith)

    own_share : (c : ℕ) → c < 2
        → of_core c stands.stood.log ≡ share_of c left.share right.share
    own_share zero small = stands.stood.left_is
    own_share (suc zero) small = stands.stood.right_is
    own_share (suc (suc c)) small = absurd (omega arith)

    -- a refusal in a share comes of a chosen step
    refusal_bad : (c : ℕ) → c < 2 → HasRefusal (share_of c left.share right.share)
        → IsBad dev.cut dev.fail last
    refusal_bad c small r =
        subst (λ (n : ℕ). IsBad dev.cut dev.fail n) closed.same.steps
        (share_refused part_of Grants course_after IsGood closed.bus base left.share right.share
        stands c (share_of c left.share right.share) r.front r.back r.did (own_share c small) r.is
        r.refusal)

    -- so does one in the driver's share
    refused : (why : NorFault)
        → DriverShare layout purpose (probe_in notes) (Err why)
        (share_of driver left.share right.share)
        → IsBad dev.cut dev.fail last
    refused why share =
        refusal_bad driver two
        (stops_refused 0 reset why moves (share_of driver left.share right.share) share)

    long : length ran.dev.inner.bytes ≡ length dev.inner.bytes
    long =
        let told : closed.bus.dev.inner.bytes ≡ stands.flash = let e = stands.told in cc in
        let good = stands_good told_bytes is_off (λ (d : CutDevice Ram). d.steps) faults_of setting_of
        MayEnd MayTear MayRefuse MustRefuse closed.bus base left.share right.share stands in
        ap length (sym closed.same.bytes) ∙ ap length told ∙ good.stands.same_length

    told : IsUnbroken dev last ⊎ IsBad dev.cut dev.fail last
    told =
        subst (λ (n : ℕ). IsUnbroken dev n ⊎ IsBad dev.cut dev.fail n) closed.same.steps
        (elim (bus_told part_of Grants course_after IsGood closed.bus base left.share right.share
        stands closed.idle
        (begins.ready.ahead.cut_ahead, begins.ready.ahead.fail_ahead)) [
          | inl ahead ↦ inl (record { cut_ahead = ahead.0; fail_ahead = ahead.1 })
          | inr bad ↦ inr bad
        ])

    whole : ¬ IsBad dev.cut dev.fail last → whole_by driven ≡ end_for layout purpose
    whole sound = by driven shares.end shares.drove
      where
        by : (r : Result LegEnd StepNo) → IfOk r (λ end. end ≡ end_for layout purpose)
            → DriverShare layout purpose (probe_in notes) (ended_as r)
            (share_of driver left.share right.share)
            → whole_by r ≡ end_for layout purpose
        by (Ok end) is share = is
        by (Err why) is share = absurd (sound (refused (cause_of why) share))

    ran_is : IsRan dev ran.dev (end_for layout purpose) ran.leg
    ran_is = closed.tells dev (end_for layout purpose) begins.ready refl long
        (sym closed.same.setting ∙ stands.setting_is) told (end_whole layout purpose) whole

    opening : IsBaseOf told_bytes is_off (λ (d : CutDevice Ram). d.steps) faults_of setting_of base
        dev
        base.map (empty_journal base.left_room base.right_room) base.duty
    opening = record {
      flash_is = refl;
      map_is = refl;
      duty_is = refl;
      left_is = refl;
      right_is = refl;
      setting_is = refl;
      steps_are = refl;
      faults_are = refl;
      off_is = refl;
    }

    -- a log and a base of a leg: at each moment by which the driver has made all of its steps, of
    -- every flash that a loss of power may leave they stand
    abbrev StandsMade : List Item → Base (CutSetting (Unit {0})) AnyDuty → Type 0
    StandsMade log opened =
        (before later : List Item) (flash : List ℕ) → log ≡ before ++ later
        → made (of_core driver before) ≡ steps_for layout purpose
        → LeavesBehind opened before flash
        → StandsBeside dev.inner.bytes (steps_for layout purpose) [] (open_addresses rows) flash

    behind : StandsMade stands.stood.log (free_base any_duty base)
    behind before later flash split all leaves =
        free_moment_stands told_bytes is_off (λ (d : CutDevice Ram). d.steps) faults_of setting_of
        MayEnd MayTear MayRefuse MustRefuse any_duty closed.bus base left.share right.share stands
        before later flash split all leaves

    -- a leg with this journal, the run of both cores behind its shares, and what stands once the
    -- driver has made all of its steps
    abbrev ParkedLeg : Kept → Type 0
    ParkedLeg journal =
        (leg : IsLeg (DriverShare layout purpose (probe_in notes)) (WorkerShare rows reset script)
        driver (λ (m : Map). m ≡ application_pages offset notes)
        (HoldsFor layout dev.inner.bytes purpose (open_addresses rows)) dev ran.dev journal)
        × IsParkedRun leg.left leg.right × StandsMade leg.stands.stood.log leg.base

    -- a leg of which it is told that its shares are those of both cores
    abbrev ToldLeg : Type 0
    ToldLeg = IsLeg
        (λ r items. DriverShare layout purpose (probe_in notes) r items
        × (items ≡ share_of driver left.share right.share))
        (λ r items. WorkerShare rows reset script r items
        × (items ≡ share_of (1 - driver) left.share right.share))
        driver (λ (m : Map). m ≡ application_pages offset notes)
        (HoldsFor layout dev.inner.bytes purpose (open_addresses rows)) dev ran.dev
        closed.bus.journal

    told_here : (leg : ToldLeg) × (leg.stands.stood.log ≡ stands.stood.log)
        × (leg.base ≡ free_base any_duty base)
    told_here =
        leg_of part_of Grants course_after IsGood torn_good made_good (IsOf rows layout purpose)
        (stays_of rows layout purpose)
        (λ r items. DriverShare layout purpose (probe_in notes) r items
        × (items ≡ share_of driver left.share right.share))
        (λ r items. WorkerShare rows reset script r items
        × (items ≡ share_of (1 - driver) left.share right.share))
        driver (λ (m : Map). m ≡ application_pages offset notes)
        (HoldsFor layout dev.inner.bytes purpose (open_addresses rows)) dev ran.dev closed.bus base
        base.map (empty_journal base.left_room base.right_room) base.duty left.share right.share
        (ended_as driven) (fault_of worked) opening refl stands closed.idle closed.same legal
        (record { rows_are = refl; layout_is = refl; purpose_is = refl })
        (good_holds dev.inner.bytes rows layout purpose begins.for) (shares.drove, refl)
        (shares.works, refl)

    abbrev told_leg : ToldLeg
    told_leg = told_here.0

    parked_leg : ParkedLeg closed.bus.journal
    parked_leg = (
      record {
        base = told_leg.base;
        map = told_leg.map;
        opening = told_leg.opening;
        mapped = told_leg.mapped;
        left = told_leg.left;
        right = told_leg.right;
        drove = told_leg.drove;
        worked = told_leg.worked;
        driver_share = told_leg.driver_share.0;
        worker_share = told_leg.worker_share.0;
        back = told_leg.back;
        same = told_leg.same;
        stands = told_leg.stands;
        legal = told_leg.legal;
        moments = told_leg.moments;
      },
      same_shares driver two told_leg.left told_leg.right left.share right.share
          told_leg.driver_share.1 told_leg.worker_share.1 run,
      λ before later flash split all leaves. behind before later flash
          (sym told_here.1 ∙ split) all
          (subst (λ (b : Base (CutSetting (Unit {0})) AnyDuty). LeavesBehind b before flash)
          told_here.2 leaves),
    )

    leg_here : ParkedLeg ran.journal
    leg_here = subst ParkedLeg (sym closed.journal) parked_leg

    abbrev leg : IsLeg (DriverShare layout purpose (probe_in notes)) (WorkerShare rows reset script)
        driver (λ (m : Map). m ≡ application_pages offset notes)
        (HoldsFor layout dev.inner.bytes purpose (open_addresses rows)) dev ran.dev ran.journal
    leg = leg_here.0

    unbroken : IsWholeEnd ran.leg.end → IsUnbroken dev last
    unbroken is = unbroken_by dev last (end_for layout purpose) ran.leg.end is ran_is.end

    made_all : IsWholeEnd ran.leg.end
        → made (share_of driver left.share right.share) ≡ steps_for layout purpose
    made_all is = by driven shares.drove
      where
        by : (r : Result LegEnd StepNo)
            → DriverShare layout purpose (probe_in notes) (ended_as r)
            (share_of driver left.share right.share)
            → made (share_of driver left.share right.share) ≡ steps_for layout purpose
        by (Ok end) share =
            made_follows 0 reset None moves (share_of driver left.share right.share) share
            ∙ begins_steps rows script driver layout purpose offset notes dev begins
            (probe_in notes)
        by (Err why) share =
            absurd (not_bad dev last (unbroken is) (refused (cause_of why) share))

    done : IsWholeEnd ran.leg.end
        → StandsBeside dev.inner.bytes (steps_for layout purpose) [] (open_addresses rows)
        ran.dev.inner.bytes
    done is =
        stands_beside told_bytes is_off (λ (d : CutDevice Ram). d.steps) faults_of setting_of MayEnd
        MayTear MayRefuse MustRefuse closed.bus base driver
        (share_of driver left.share right.share) (share_of (1 - driver) left.share right.share)
        (steps_for layout purpose) [] ran.dev.inner.bytes two (ordered driver two) refl
        (sym (append-nil (steps_for layout purpose))) (made_all is)
        (ap (λ (bytes : List ℕ). Some bytes) closed.same.bytes)

    -- both cores came to their ends where nothing broke off
    both_ended : IsWholeEnd ran.leg.end → IsOk driven × IsOk worked
    both_ended is = (drove driven shares.drove, worked_too worked shares.works)
      where
        drove : (r : Result LegEnd StepNo)
            → DriverShare layout purpose (probe_in notes) (ended_as r)
            (share_of driver left.share right.share) → IsOk r
        drove (Ok end) share = refl
        drove (Err why) share =
            absurd (not_bad dev last (unbroken is) (refused (cause_of why) share))

        stopped : (why : NorFault)
            → WorkerShare rows reset script (Err why) (share_of (1 - driver) left.share right.share)
            → ⊥
        stopped why share =
            not_bad dev last (unbroken is)
            (refusal_bad (1 - driver) (omega arith)
            (stopped_refused rows why 1 reset script (share_of (1 - driver) left.share right.share)
            share))

        worked_too : (r : Result (Unit {0}) StepNo)
            → WorkerShare rows reset script (fault_of r)
            (share_of (1 - driver) left.share right.share) → IsOk r
        worked_too (Ok u) share = refl
        worked_too (Err steps.Device) share = absurd (stopped _ share)
        worked_too (Err steps.Cut) share = absurd (stopped _ share)

    is_leg : IsDuoLeg rows script driver layout purpose offset notes dev ran
    is_leg = record {
      ran_is = ran_is;
      leg = leg;
      parked = leg_here.1;
      both = λ is. (
        drove_whole rows script driver layout purpose (probe_in notes)
            (λ (m : Map). m ≡ application_pages offset notes)
            (HoldsFor layout dev.inner.bytes purpose (open_addresses rows)) dev ran.dev ran.journal
            two
            leg (unbroken is),
        worked_whole rows script driver layout purpose (probe_in notes)
            (λ (m : Map). m ≡ application_pages offset notes)
            (HoldsFor layout dev.inner.bytes purpose (open_addresses rows)) dev ran.dev ran.journal
            two
            leg (unbroken is),
      );
      done = done;
      behind = leg_here.2;
    }

  -- both cores stay what they are
  kept_at : (d : ℕ) → d < 2 → (words : TableId) (first second left right : Core)
      (driven : Result LegEnd StepNo) (worked : Result (Unit {0}) StepNo)
      → IsFirst words 0 base first → IsFirst words 1 base second
      → HaveRun d layout purpose notes rows script driven worked first second left right
      → ((left.table ≡ words) × (left.core ≡ 0)) × ((right.table ≡ words) × (right.core ≡ 1))
      × (left.base ≡ Some base)
  kept_at zero small words first second left right driven worked one other run =
      let a = run.0.ran.adds.is in
      let b = run.1.adds.is in (
        (
          ap (λ (z : Core). z.table) a ∙ ap (λ (z : Core). z.table) one,
          ap (λ (z : Core). z.core) a ∙ ap (λ (z : Core). z.core) one,
        ),
        (
          ap (λ (z : Core). z.table) b ∙ ap (λ (z : Core). z.table) other,
          ap (λ (z : Core). z.core) b ∙ ap (λ (z : Core). z.core) other,
        ),
        ap (λ (z : Core). z.base) a ∙ ap (λ (z : Core). z.base) one,
      )
  kept_at (suc zero) small words first second left right driven worked one other run =
      let a = run.0.ran.adds.is in
      let b = run.1.adds.is in (
        (
          ap (λ (z : Core). z.table) b ∙ ap (λ (z : Core). z.table) one,
          ap (λ (z : Core). z.core) b ∙ ap (λ (z : Core). z.core) one,
        ),
        (
          ap (λ (z : Core). z.table) a ∙ ap (λ (z : Core). z.table) other,
          ap (λ (z : Core). z.core) a ∙ ap (λ (z : Core). z.core) other,
        ),
        ap (λ (z : Core). z.base) b ∙ ap (λ (z : Core). z.base) one,
      )
  kept_at (suc (suc d)) small words first second left right driven worked one other run =
      absurd (omega arith)

  -- what both are behind the leg, by the base that was opened
  module _ (opened : Base (CutSetting (Unit {0})) Course) (same : opened ≡ base)
      (words : TableId) (first second left right : Core) (driven : Result LegEnd StepNo)
      (worked : Result (Unit {0}) StepNo) (one : IsFirst words 0 opened first)
      (other : IsFirst words 1 opened second)
      (run : HaveRun driver layout purpose notes rows script driven worked first second left right)
    where
      one_here : IsFirst words 0 base first
      one_here = subst (λ (b : Base (CutSetting (Unit {0})) Course). IsFirst words 0 b first) same
          one

      other_here : IsFirst words 1 base second
      other_here =
          subst (λ (b : Base (CutSetting (Unit {0})) Course). IsFirst words 1 b second) same other

      pub kept_left : (left.table ≡ words) × (left.core ≡ 0)
      kept_left = (kept_at driver two words first second left right driven worked one_here
          other_here
          run).0

      pub kept_right : (right.table ≡ words) × (right.core ≡ 1)
      kept_right = (kept_at driver two words first second left right driven worked one_here
          other_here
          run).1

      pub kept_base : (before : ℕ) → before ≡ dev.steps
          → OnBase left.base (λ b. b.steps ≡ before)
      kept_base before is =
          subst (λ (o : Option (Base (CutSetting (Unit {0})) Course)). OnBase o (λ b.
          b.steps ≡ before))
          (sym (kept_at driver two words first second left right driven worked one_here other_here
          run).2) (sym is)

      -- from the opening to the device that came back
      pub outcome : (before : ℕ) (whole : LegEnd) (ran : Ran) → before ≡ dev.steps
          → whole ≡ whole_by driven → IsClosed before whole left right ran
          → IsParkedRun left.share right.share
          → IsDuoLeg rows script driver layout purpose offset notes dev ran
      outcome before whole ran is ends closed parked =
          is_leg left right driven worked ran
          (subst (λ (z : ℕ × LegEnd). IsClosed z.0 z.1 left right ran) (λ i. (is i, ends i)) closed)
          parked
          (shares_at driver refl two words first second left right driven worked one_here other_here
          run)

      -- both cores came to their ends where nothing broke off
      pub both_ends : (before : ℕ) (whole : LegEnd) (ran : Ran) → before ≡ dev.steps
          → whole ≡ whole_by driven → IsClosed before whole left right ran
          → IsParkedRun left.share right.share → IsWholeEnd ran.leg.end → IsOk driven × IsOk worked
      both_ends before whole ran is ends closed parked =
          both_ended left right driven worked ran
          (subst (λ (z : ℕ × LegEnd). IsClosed z.0 z.1 left right ran) (λ i. (is i, ends i)) closed)
          parked
          (shares_at driver refl two words first second left right driven worked one_here other_here
          run)
