-- A leg, by the bus on which both cores worked; and what a trial needs of it.
use Rattle.std.proofs.Common.{◌≡◌, Bool, ℕ, zero, suc, ◌-◌, List, [], ◌∷◌, ◌++◌, Option, Some, None, Result, refl, sym, ap, ◌∙◌, subst}
use Rattle.std.proofs.lemmas.List.{append-nil}
use Rattle.nor_device.specs.declared.step.Step.{Step}
use Rattle.nor_device.specs.declared.nor.NorFault.{NorFault}
use Rattle.nor_device.specs.Flash.{applied}
use Rattle.nor_device.specs.Ram.{Ram}
use Rattle.nor_device.specs.Torn.{Torn}
use Rattle.crash_images.specs.declared.cut.CutSetting.{CutSetting}
use Rattle.crash_images.specs.Crash.{LeavesNow}
use Rattle.crash_images.specs.Cut.{CutDevice}
use Rattle.partition_table.specs.Layout.{Places}
use Rattle.rollback.specs.declared.rewrite.Rewrite.{Rewrite}
use Rattle.mmu_map.specs.Map.{Map}
use Rattle.bus_hub.specs.declared.did.Base.{Base}
use Rattle.bus_hub.specs.declared.did.Did.{Did}
use Rattle.bus_hub.specs.declared.did.Did.TheVariants.{Opened, Closed, Broken, Fetched, Noted, Denied, Mapping, Unmapping, Missed, Masked, Unfetched}
use Rattle.bus_hub.specs.declared.did.Running.{Running}
use Rattle.bus_hub.specs.declared.duty.AnyDuty.{AnyDuty}
use Rattle.bus_hub.specs.Hub.{Fits, Hub, IsBaseOf, Stands, begun, state_of, step_of}
use Rattle.bus_hub.specs.Legal.{IsLegal}
use Rattle.bus_hub.specs.Log.{Item, Rule, Ruled, State, change, made_whole, reached}
use Rattle.bus_hub.specs.Moments.{MayBeLeft}
use Rattle.bus_hub.specs.Room.{Kept}
use Rattle.bus_hub.proofs.Forgetting.{free_base, free_reached, free_state}
use Rattle.bus_hub.proofs.Prefixes.{good_at_all}
use Rattle.boot_run.specs.declared.aims.Aim.{Aim}
use Rattle.update_steps.specs.Beside.{IsApart}
use Rattle.power_cut.specs.declared.legs.Ran.{Ran}
use Rattle.power_cut.specs.Device.{MayEnd, MayRefuse, MayTear, MustRefuse, told_bytes, faults_of, is_off, setting_of}
use Rattle.power_cut.specs.Kept.{IsConfirmLeg, IsSessionLeg, KeepsConfirm, KeepsSession}
use Rattle.power_cut.specs.Leg.{AnyGrants, IsLeg, IsSameFlash, LeavesBehind, any_after, any_duty, any_part, bus_behind, share_of, state_behind}
use Rattle.power_cut.specs.Update.{HoldsRewrite, HoldsUpdate}

-- what a loss of power may leave, in the words of the device and of the log
may_be_left : (flash left : List ℕ) (o : Option Running) → LeavesNow flash (step_of o) left
    → MayBeLeft flash o left
may_be_left flash left None leaves = leaves
may_be_left flash left (Some run) leaves = leaves

-- ---- a leg of a bus that stands by any duty

module _ {K P : Type 0} (part : K → ℕ → P) (grants : P → Step → Type 0)
    (after : K → ℕ → Step → K) (good : List ℕ → K → List ℕ → Type 0)
    (torn_good : (first : List ℕ) (duty : K) (c : ℕ) (step : Step) (flash left : List ℕ)
    → good first duty flash → grants (part duty c) step → Torn flash step left
    → good first duty left)
    (made_good : (first : List ℕ) (duty : K) (c : ℕ) (step : Step) (flash : List ℕ)
    → good first duty flash → grants (part duty c) step
    → good first (after duty c step) (applied flash step)) where
  abbrev Keeps : CutSetting (Unit {0}) → State K → List Item → Type 0
  Keeps = Rattle.bus_hub.proofs.Logs.Keeps MayEnd MayTear MayRefuse MustRefuse part grants after

  -- what is ruled by the duty is ruled by one that allows each step
  rule_free : (set : CutSetting (Unit {0})) (s : State K) (c : ℕ) (did : Did)
      → Rule MayEnd MayTear MayRefuse MustRefuse part grants after set s c did
      → Rule MayEnd MayTear MayRefuse MustRefuse any_part AnyGrants any_after set
      (free_state any_duty s) c did
  rule_free set s c (Opened k regs step) rule = (rule.0, tt, rule.2)
  rule_free set s c (Closed k regs) rule = rule
  rule_free set s c (Broken k regs why left) rule = rule
  rule_free set s c (Fetched k regs at bytes) rule = rule
  rule_free set s c (Noted k regs act) rule = rule
  rule_free set s c (Denied why) rule = rule
  rule_free set s c (Mapping flash_page n space answer) rule = rule
  rule_free set s c (Unmapping at answer) rule = rule
  rule_free set s c (Missed at len) rule = rule
  rule_free set s c (Masked at len) rule = rule
  rule_free set s c (Unfetched at len why) rule = rule

  ruled_free : (set : CutSetting (Unit {0})) (s : State K) (log : List Item) → Keeps set s log
      → Ruled MayEnd MayTear MayRefuse MustRefuse any_part AnyGrants any_after set
      (free_state any_duty s) log
  ruled_free set s [] ruled = tt
  ruled_free set s (x ∷ log) ruled = (
    ruled.0,
    rule_free set s x.core x.did ruled.1,
    subst (λ (t : State AnyDuty). Ruled MayEnd MayTear MayRefuse MustRefuse any_part AnyGrants
        any_after set t log) (free_reached any_duty after s (x ∷ []))
        (ruled_free set (change after s x.core x.did) log ruled.2),
  )

  fits_free : (b : Base (CutSetting (Unit {0})) K) (c : ℕ) (share : List Did) → Fits b c share
      → Fits (free_base any_duty b) c share
  fits_free b zero share fits =
      record { entries_fit = fits.entries_fit; bytes_fit = fits.bytes_fit }
  fits_free b (suc c) share fits =
      record { entries_fit = fits.entries_fit; bytes_fit = fits.bytes_fit }

  -- what no step changes of a duty, a log keeps
  module _ (stays : K → Type 0)
      (stays_so : (duty : K) (c : ℕ) (step : Step) → stays duty → stays (after duty c step)) where
    whole_stays : (s : State K) (c : ℕ) (o : Option Running) → stays s.duty
        → stays (made_whole after s c o).duty
    whole_stays s c None is = is
    whole_stays s c (Some run) is = stays_so s.duty c run.step is

    item_stays : (s : State K) (c : ℕ) (did : Did) → stays s.duty
        → stays (change after s c did).duty
    item_stays s c (Opened k regs step) is = is
    item_stays s c (Closed k regs) is = whole_stays s c s.running is
    item_stays s c (Broken k regs why left) is = is
    item_stays s c (Fetched k regs at bytes) is = is
    item_stays s c (Noted k regs act) is = is
    item_stays s c (Denied why) is = is
    item_stays s c (Mapping flash_page n space answer) is = is
    item_stays s c (Unmapping at answer) is = is
    item_stays s c (Missed at len) is = is
    item_stays s c (Masked at len) is = is
    item_stays s c (Unfetched at len why) is = is

    log_stays : (s : State K) (log : List Item) → stays s.duty → stays (reached after s log).duty
    log_stays s [] is = is
    log_stays s (x ∷ log) is =
        log_stays (change after s x.core x.did) log (item_stays s x.core x.did is)

    -- a bus with nothing running that stands for its base and both shares is a leg: what its duty
    -- calls good holds at every moment; its log is that of the bus, and its base that without a duty
    pub leg_of : (drives works : Result (Unit {0}) NorFault → List Did → Type 0) (driver : ℕ)
        (pages : Map → Type 0) (holds : List ℕ → Type 0) (old new : CutDevice Ram)
        (h : Hub (CutDevice Ram) K) (b : Base (CutSetting (Unit {0})) K) (map : Map)
        (journal : Kept) (duty : K) (left right : List Did) (drove worked : Result
        (Unit {0}) NorFault)
        → IsBaseOf told_bytes is_off (λ d. d.steps) faults_of setting_of b old map journal duty
        → pages b.map
        → (stands : Stands told_bytes is_off (λ d. d.steps) faults_of setting_of MayEnd MayTear
        MayRefuse MustRefuse part grants after good h b left right)
        → h.running ≡ None → IsSameFlash h.dev new → IsLegal h.journal.entries
        → stays b.duty
        → ((d : K) (flash : List ℕ) → stays d → good b.flash d flash → holds flash)
        → drives drove (share_of driver left right) → works worked (share_of
        (1 - driver) left right)
        → (leg : IsLeg drives works driver pages holds old new h.journal)
        × (leg.stands.stood.log ≡ stands.stood.log) × (leg.base ≡ free_base any_duty b)
    leg_of drives works driver pages holds old new h b map journal duty left right drove worked
        opening mapped stands idle same legal is means drives_so works_so = (
          record {
            base = free_base any_duty b;
            map = h.map;
            opening = record {
              flash_is = opening.flash_is;
              map_is = refl;
              duty_is = refl;
              left_is = sym stands.left_room;
              right_is = sym stands.right_room;
              setting_is = opening.setting_is;
              steps_are = opening.steps_are;
              faults_are = opening.faults_are;
              off_is = opening.off_is;
            };
            mapped = mapped;
            left = left;
            right = right;
            drove = drove;
            worked = worked;
            driver_share = drives_so;
            worker_share = works_so;
            back = h.dev;
            same = same;
            stands = record {
              flash = stands.flash;
              told = stands.told;
              noted = stands.noted;
              counted = stands.counted;
              is_off = stands.is_off;
              power = stands.power;
              setting_is = stands.setting_is;
              left_room = stands.left_room;
              right_room = stands.right_room;
              left_fits = fits_free b 0 left stands.left_fits;
              right_fits = fits_free b 1 right stands.right_fits;
              good_first = tt;
              whole_first = stands.whole_first;
              stood = record {
                log = stands.stood.log;
                left_is = stands.stood.left_is;
                right_is = stands.stood.right_is;
                ruled = ruled_free b.setting (begun b) stands.stood.log stands.stood.ruled;
                leads = sym (free_reached any_duty after (begun b) stands.stood.log)
                    ∙ ap (free_state any_duty) stands.stood.leads
                    ∙ ap (λ (o : Option Running).
                    record (state_of (bus_behind h.dev h.map h.journal) stands.flash h.dev.steps
                    stands.noted stands.is_off) { running = o }) idle;
              };
            };
            legal = legal;
            moments = moments;
          },
          refl,
          refl,
        )
      where
        moments : (before later : List Item) (flash : List ℕ)
            → stands.stood.log ≡ before ++ later
            → LeavesBehind (free_base any_duty b) before flash → holds flash
        moments before later flash split leaves =
            let mid : State K = reached after (begun b) before in
            let same_state : free_state any_duty mid ≡ state_behind (free_base any_duty b) before =
            free_reached any_duty after (begun b) before in
            let left_here : LeavesNow mid.flash (step_of mid.running) flash =
            subst (λ (s : State AnyDuty). LeavesNow s.flash (step_of s.running) flash)
            (sym same_state) leaves in
            means mid.duty flash (log_stays (begun b) before is)
            (good_at_all MayEnd MayTear MayRefuse MustRefuse part grants after good torn_good
            made_good b.flash b.setting (begun b) before later flash
            (subst (λ (l : List Item). Keeps b.setting (begun b) l) split stands.stood.ruled)
            stands.good_first refl (may_be_left mid.flash flash mid.running left_here))

-- ---- what holds behind a leg

module _ (drives works : Result (Unit {0}) NorFault → List Did → Type 0) (driver : ℕ)
    (pages : Map → Type 0) (holds : List ℕ → Type 0) (old new : CutDevice Ram) (journal : Kept)
    (leg : IsLeg drives works driver pages holds old new journal) where
  -- the flash that is left is one that a loss of power may leave behind the whole log
  pub left_at_end : LeavesBehind leg.base leg.stands.stood.log new.inner.bytes
  left_at_end =
      let log : List Item = leg.stands.stood.log in
      let told : leg.stands.flash ≡ leg.back.inner.bytes = let e = leg.stands.told in cc in
      let flash_is : (state_behind leg.base log).flash ≡ leg.back.inner.bytes =
      ap (λ (s : State AnyDuty). s.flash) leg.stands.stood.leads ∙ told in
      let idle : (state_behind leg.base log).running ≡ None =
      ap (λ (s : State AnyDuty). s.running) leg.stands.stood.leads in
      subst (λ (o : Option Running). LeavesNow (state_behind leg.base log).flash (step_of o)
      new.inner.bytes) (sym idle) (sym leg.same.bytes ∙ sym flash_is)

  -- so it holds of that
  pub holds_behind : holds new.inner.bytes
  holds_behind =
      let log : List Item = leg.stands.stood.log in
      leg.moments log [] new.inner.bytes (sym (append-nil log)) left_at_end

module _ (drives works : Result (Unit {0}) NorFault → List Did → Type 0) (driver : ℕ)
    (pages : Map → Type 0) (layout : Places) (others : ℕ → Bool) (apart : IsApart layout others)
  where
    -- a session has what a trial needs of it
    pub session_keeps : (aim : Aim) (image : List ℕ) (old : CutDevice Ram) (ran : Ran)
        → IsSessionLeg drives works driver pages layout others aim image old ran
        → KeepsSession layout aim image old ran
    session_keeps aim image old ran is = record {
      ran_is = is.ran_is;
      others = others;
      apart = apart;
      holds = holds_behind drives works driver pages
          (HoldsUpdate layout old.inner.bytes aim image others) old ran.dev ran.journal is.leg;
      done = is.done;
    }

    -- and so has a confirmation
    pub confirm_keeps : (write : Rewrite) (old : CutDevice Ram) (ran : Ran)
        → IsConfirmLeg drives works driver pages layout others write old ran
        → KeepsConfirm layout write old ran
    confirm_keeps write old ran is = record {
      ran_is = is.ran_is;
      others = others;
      apart = apart;
      holds = holds_behind drives works driver pages
          (HoldsRewrite layout old.inner.bytes write others) old ran.dev ran.journal is.leg;
      done = is.done;
    }
