-- The bytes of each fetch of a leg's journal are in it.
use Rattle.std.proofs.Common.{◌≡◌, ℕ, ◌+◌, ◌<◌, ◌≤◌, Bool, true, false, List, [], ◌∷◌, ◌++◌, length, Option, Some, None, subst, arith, length-append}
use Rattle.nor_device.specs.Ram.{Ram}
use Rattle.crash_images.specs.declared.cut.CutSetting.{CutSetting}
use Rattle.crash_images.specs.Cut.{CutDevice}
use Rattle.bus_hub.specs.declared.entry.Act.{Act}
use Rattle.bus_hub.specs.declared.entry.Act.TheVariants.{Open, Close, Fetch, Set, Mapped, Unmapped, Wrote, Refused}
use Rattle.bus_hub.specs.declared.entry.Entry.{Entry}
use Rattle.bus_hub.specs.declared.did.Base.{Base}
use Rattle.bus_hub.specs.declared.did.Running.{Running}
use Rattle.bus_hub.specs.declared.did.Did.{Did}
use Rattle.bus_hub.specs.declared.did.Did.TheVariants.{Opened, Closed, Broken, Fetched, Noted, Denied, Mapping, Unmapping, Missed, Masked, Unfetched}
use Rattle.bus_hub.specs.declared.duty.AnyDuty.{AnyDuty}
use Rattle.bus_hub.specs.Log.{IsPlain, Rule, State, change, made_whole}
use Rattle.bus_hub.specs.Hub.{Hub, begun}
use Rattle.bus_hub.proofs.Logs.{kept}
use Rattle.boot_run.specs.declared.aims.Aim.{Aim}
use Rattle.power_cut.specs.declared.outcome.Trial.{Trial}
use Rattle.power_cut.specs.declared.legs.Leg.{Leg}
use Rattle.power_cut.specs.declared.legs.Upto.{Upto}
use Rattle.power_cut.specs.Device.{MayEnd, MayTear, MayRefuse, MustRefuse}
use Rattle.power_cut.specs.Leg.{AnyGrants, LegStands, any_after, any_part}
use Rattle.power_cut.specs.Whole.{BehindBoot, BehindSession}
use Rattle.flash_text.specs.WorkerText.{AreInside, IsInside}
use Rattle.flash_text.specs.UpdateText.{IsReadable}
use Rattle.flash_cli.specs.Served.{AreReadable}
use Rattle.update_run.specs.declared.options.Options.{Options}
use Rattle.update_run.specs.Opening.{Opening}
use Rattle.update_run.specs.Legs.{Confirms}
use Rattle.update_run.specs.Updating.{IsUpdate}

-- what is inside stays inside as bytes are added
inside_more : (n m : ℕ) (act : Act) → n ≤ m → IsInside n act → IsInside m act
inside_more n m (Open erase at len) more inside = tt
inside_more n m (Close end) more inside = tt
inside_more n m (Fetch at start len) more inside = omega arith
inside_more n m Set more inside = tt
inside_more n m (Mapped at) more inside = tt
inside_more n m (Unmapped at) more inside = tt
inside_more n m Wrote more inside = tt
inside_more n m (Refused why) more inside = tt

all_more : (n m : ℕ) (entries : List Entry) → n ≤ m → AreInside n entries → AreInside m entries
all_more n m [] more inside = tt
all_more n m (entry ∷ entries) more inside =
    (inside_more n m entry.act more inside.0, all_more n m entries more inside.1)

-- one more entry at the end
one_more_inside : (n : ℕ) (entries : List Entry) (entry : Entry) → AreInside n entries
    → IsInside n entry.act → AreInside n (entries ++ entry ∷ [])
one_more_inside n [] entry inside one = (one, tt)
one_more_inside n (first ∷ entries) entry inside one =
    (inside.0, one_more_inside n entries entry inside.1 one)

-- an act that a core notes by itself fetches nothing
plain_inside : (n : ℕ) (act : Act) → IsPlain act → IsInside n act
plain_inside n (Open erase at len) plain = absurd plain
plain_inside n (Close end) plain = absurd plain
plain_inside n (Fetch at start len) plain = absurd plain
plain_inside n Set plain = tt
plain_inside n (Mapped at) plain = tt
plain_inside n (Unmapped at) plain = tt
plain_inside n Wrote plain = tt
plain_inside n (Refused why) plain = tt

-- the state of a log has the bytes of each fetch
abbrev IsInsideState : State AnyDuty → Type 0
IsInsideState s = AreInside (length s.bytes) s.entries

-- a step that is made whole changes neither entries nor bytes
whole_inside : (s : State AnyDuty) (c : ℕ) (running : Option Running) (entry : Entry)
    → IsInsideState s → IsInside (length s.bytes) entry.act
    → AreInside (length (made_whole any_after s c running).bytes)
    ((made_whole any_after s c running).entries ++ entry ∷ [])
whole_inside s c None entry inside one = one_more_inside (length s.bytes) s.entries entry inside one
whole_inside s c (Some run) entry inside one =
    one_more_inside (length s.bytes) s.entries entry inside one

-- so is it after each item
change_inside : (set : CutSetting (Unit {0})) (s : State AnyDuty) (c : ℕ) (did : Did) → c < 2
    → Rule MayEnd MayTear MayRefuse MustRefuse any_part AnyGrants any_after set s c did
    → IsInsideState s → IsInsideState (change any_after s c did)
change_inside set s c (Opened k regs step) core rule inside =
    one_more_inside (length s.bytes) s.entries _ inside tt
change_inside set s c (Closed k regs) core rule inside = whole_inside s c s.running _ inside tt
change_inside set s c (Broken k regs why left) core rule inside =
    one_more_inside (length s.bytes) s.entries _ inside tt
change_inside set s c (Fetched k regs at bytes) core rule inside =
    let long : length (s.bytes ++ bytes) ≡ length s.bytes + length bytes = length-append s.bytes bytes in
    one_more_inside (length (s.bytes ++ bytes)) s.entries _
    (all_more (length s.bytes) (length (s.bytes ++ bytes)) s.entries (omega arith) inside)
    (omega arith)
change_inside set s c (Noted k regs act) core rule inside =
    one_more_inside (length s.bytes) s.entries _ inside (plain_inside (length s.bytes) act rule.1)
change_inside set s c (Denied why) core rule inside = inside
change_inside set s c (Mapping page n space answer) core rule inside = inside
change_inside set s c (Unmapping at answer) core rule inside = inside
change_inside set s c (Missed at len) core rule inside = inside
change_inside set s c (Masked at len) core rule inside = inside
change_inside set s c (Unfetched at len why) core rule inside = inside

-- so is the journal of a leg
pub leg_readable : (h : Hub (CutDevice Ram) AnyDuty) (base : Base (CutSetting (Unit {0})) AnyDuty)
    (left right : List Did) → LegStands h base left right
    → AreInside (length h.journal.bytes) h.journal.entries
leg_readable h base left right stands =
    subst IsInsideState stands.stood.leads
    (kept MayEnd MayTear MayRefuse MustRefuse any_part AnyGrants any_after base.setting IsInsideState
    (change_inside base.setting) (begun base) stands.stood.log stands.stood.ruled tt)

-- the journal of a confirmation, where there is one
behind_boot : (o : Opening) (aim : Aim) (driver : ℕ) (b : Bool) (legs : List Leg)
    (dev : CutDevice Ram) (t : Trial) → BehindBoot (Confirms o driver) o.layout o.flash aim o.image b legs dev t
    → IsReadable t.confirm
behind_boot o aim driver false legs dev t ends = rw ends.confirm_is tt
behind_boot o aim driver true legs dev t ends =
    let leg = ends.confirmed.leg.leg in
    rw ends.ends.confirm_is (leg_readable _ leg.base leg.left leg.right leg.stands)

behind_session : (o : Opening) (aim : Aim) (driver : ℕ) (b : Bool) (upto : Upto) (session : Leg)
    (dev : CutDevice Ram) (t : Trial)
    → BehindSession (Confirms o driver) o.layout o.flash aim o.image b upto session dev t
    → IsReadable t.confirm
behind_session o aim driver false upto session dev t ends = rw ends.confirm_is tt
behind_session o aim driver true upto session dev t ends =
    behind_boot o aim driver _ _ ends.new t ends.behind

-- both journals of an update
session_readable : (options : Options) (o : Opening) (t : Trial) → IsUpdate options o t
    → IsReadable (Some t.session)
session_readable options o t update =
    let leg = update.trial.written.leg.leg in
    rw update.trial.journal (leg_readable _ leg.base leg.left leg.right leg.stands)

confirm_readable : (options : Options) (o : Opening) (t : Trial) → IsUpdate options o t
    → IsReadable t.confirm
confirm_readable options o t update =
    behind_session o update.aim options.driver _ options.upto _ _ t update.trial.behind

pub trial_readable : (options : Options) (o : Opening) (t : Trial) → IsUpdate options o t
    → AreReadable t
trial_readable options o t update = record {
  session = session_readable options o t update;
  confirm = confirm_readable options o t update;
}
