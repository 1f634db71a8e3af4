-- Steps that are begun and polled.
use Rattle.std.specs.Prelude.{◌≡◌, ℕ, ◌<◌, ◌≤◌, Bool, true, false, List, [], ◌∷◌, refl, Option, Some, None, Result, Ok, Err, OnOk, OnErr, IfSome}
use Rattle.std.proofs.Common.{◌∙◌, sym, ap, subst, arith}
use Rattle.core_state.specs.declared.registers.Regs.{Regs}
use Rattle.core_state.specs.Sharing.{GoesOn}
use Rattle.nor_device.specs.declared.step.Step.{Step}
use Rattle.nor_device.specs.declared.nor.Ready.{Ready}
use Rattle.nor_device.specs.declared.nor.Ready.TheVariants as answers
use Rattle.nor_device.specs.declared.nor.StepEnd.{StepEnd}
use Rattle.nor_device.specs.declared.nor.StepEnd.TheVariants as ends
use Rattle.nor_device.specs.declared.nor.NorFault.{NorFault}
use Rattle.nor_device.specs.declared.nor.NorFault.TheVariants.{Failed, Off}
use Rattle.nor_device.specs.Flash.{applied}
use Rattle.nor_device.specs.Torn.{Torn}
use Rattle.nor_device.specs.Nor.{end_by, HasCause, IsMadeWhole, IsLeftTorn}
use Rattle.bus_hub.specs.declared.did.Did.{Did}
use Rattle.bus_hub.specs.declared.did.Did.TheVariants.{Opened, Closed, Broken, Denied}
use Rattle.bus_hub.specs.declared.did.Running.{Running}
use Rattle.bus_hub.specs.declared.did.Base.{Base}
use Rattle.bus_hub.specs.declared.entry.Act.TheVariants.{Close}
use Rattle.bus_hub.specs.Log.{State, Rule, change, noted_by, off_by, Runs, with_one, made_whole, entry_of}
use Rattle.bus_hub.specs.Hub.{Hub, Fits, Stands, PowerIs, record_of, state_of, step_of, core_of}
use Rattle.bus_hub.specs.Told.{Asks, Starts, Polls, asked, started, polled, with_device, running_step, ended_step, after_poll, number_of, held}
use Rattle.bus_hub.proofs.Adds.{adds, still}

-- the failures that were told are no more than the device counts
pub counted_by : {T : Type 0} (why : NorFault) (before now count : ℕ) (off : Bool)
    → HasCause {T = T} before now off (Err why) → count ≤ before → noted_by why count ≤ now
counted_by Failed before now count off cause less = omega (arith, cause.failed refl)
counted_by Off before now count off cause less = omega (arith, cause.later)

-- after a refusal the power is as it says
pub power_by : {T : Type 0} (why : NorFault) (before now : ℕ) (off : Bool) (stops : Type 0)
    → HasCause {T = T} before now off (Err why) → PowerIs off (off_by why) stops
power_by {T} Failed before now off stops cause = record {
  went_off = λ is. absurd (differ (cause.off_is.1 is));
  came_back = λ is on. absurd (cc);
} where
  differ : ◌≡◌ {A = Result T NorFault} (Err Failed) (Err Off) → ⊥
  differ e = cc
power_by Off before now off stops cause = record {
  went_off = λ is. refl;
  came_back = λ is on. absurd (clash (cause.off_is.0 refl) on);
} where
  clash : off ≡ true → off ≡ false → ⊥
  clash a b = cc

-- after an answer it is on
pub power_on : {T : Type 0} (value : T) (before now : ℕ) (off : Bool)
    → HasCause before now off (Ok value) → off ≡ false
power_on {T} value before now true cause = absurd (differ (cause.off_is.1 refl)) where
  differ : ◌≡◌ {A = Result T NorFault} (Ok value) (Err Off) → ⊥
  differ e = cc
power_on value before now false cause = refl

pub powered : (off : Bool) (stops : Type 0) → off ≡ false → PowerIs off false stops
powered off stops on = record {
  went_off = λ is. absurd (clash is);
  came_back = λ is here. absurd (false_true is);
} where
  clash : off ≡ true → ⊥
  clash is = cc

  false_true : false ≡ true → ⊥
  false_true is = cc

module _ {D S K P : Type 0}
    (bytes : D → Option (List ℕ)) (off : D → Bool) (steps faults : D → ℕ)
    (setting : D → S) (may_end : S → ℕ → StepEnd → Type 0) (may_tear : S → ℕ → List ℕ → Step
    → List ℕ → Type 0)
    (may_refuse : S → ℕ → NorFault → Type 0) (must_refuse : S → ℕ → Type 0)
    (part : K → ℕ → P) (grants : P → Step → Type 0) (after : K → ℕ → Step → K)
    (good : List ℕ → K → List ℕ → Type 0) where
  abbrev pub StandsBy : Hub D K → Base S K → List Did → List Did → Type 0
  StandsBy = Stands bytes off steps faults setting may_end may_tear may_refuse must_refuse
      part grants after good

  abbrev Starting : D → D → Result (Unit {0}) NorFault → Type 0
  Starting = Starts bytes off steps faults setting may_refuse must_refuse

  -- what the device refused is a mark
  pub refused : (old : Hub D K) (dev : D) (c : ℕ) (why : NorFault) (did : Did) → c < 2
      → bytes dev ≡ bytes old.dev → steps dev ≡ steps old.dev → setting dev ≡ setting old.dev
      → HasCause {T = Unit {0}} (faults old.dev) (faults dev) (off dev) (Err why)
      → ((flash : List ℕ) (noted : ℕ) (is_off : Bool) → bytes old.dev ≡ Some flash
      → Rule may_end may_tear may_refuse must_refuse part grants after (setting old.dev)
      (state_of old flash (steps old.dev) noted is_off) c did)
      → ((s : State K) → change after s c did
      ≡ record s { noted = noted_by why s.noted; is_off = off_by why })
      → GoesOn StandsBy Fits old (with_device old dev) c (did ∷ [])
  refused old dev c why did small told count set cause rule changes =
      adds bytes off steps faults setting may_end may_tear may_refuse must_refuse
      part grants after good
      old (with_device old dev) c did small (λ flash noted is_off told_flash counted power. record {
        rule = rule flash noted is_off told_flash;
        flash_after = flash;
        told = told ∙ told_flash;
        noted_after = noted_by why noted;
        counted = counted_by why (faults old.dev) (faults dev) noted (off dev) cause counted;
        is_off_after = off_by why;
        power = power_by why (faults old.dev) (faults dev) (off dev)
            (must_refuse (setting old.dev) (steps dev)) cause;
        setting_same = set;
        left_room = refl;
        right_room = refl;
        leads = changes (state_of old flash (steps old.dev) noted is_off)
            ∙ ap (λ (n : ℕ). state_of (with_device old dev) flash n (noted_by why noted)
            (off_by why)) (sym count);
      })

  -- so is a refused read or start
  pub denied : (old : Hub D K) (dev : D) (c : ℕ) (why : NorFault) → c < 2 → old.running ≡ None
      → bytes dev ≡ bytes old.dev → steps dev ≡ steps old.dev → setting dev ≡ setting old.dev
      → may_refuse (setting old.dev) (steps old.dev) why
      → HasCause {T = Unit {0}} (faults old.dev) (faults dev) (off dev) (Err why)
      → GoesOn StandsBy Fits old (with_device old dev) c (Denied why ∷ [])
  denied old dev c why small idle told count set may cause =
      refused old dev c why (Denied why) small told count set cause
      (λ flash noted is_off told_flash. (idle, may)) (λ s. refl)

  -- the begin of a step
  pub begins : (old new : Hub D K) (c k : ℕ) (regs : Regs) (step : Step)
      (r : Result (Unit {0}) NorFault) → c < 2 → old.running ≡ None
      → grants (part old.duty c) step → regs ≡ (record_of old c).regs
      → OnOk r (new ≡ running_step old c k step new.dev) → OnErr r (new ≡ with_device old new.dev)
      → Starting old.dev new.dev r
      → GoesOn StandsBy Fits old new c (started k (record_of old c).regs step r)
  begins old new c k regs step (Err why) small idle granted regs_are ok err s =
      subst (λ (h : Hub D K). GoesOn StandsBy Fits old h c (Denied why ∷ [])) (sym err)
      (denied old new.dev c why small idle s.told s.not_counted s.setting_same s.allowed s.cause)
  begins old new c k regs step (Ok u) small idle granted regs_are ok err s =
      let on : off new.dev ≡ false = power_on u (faults old.dev) (faults new.dev) (off new.dev)
      s.cause in
      subst (λ (h : Hub D K). GoesOn StandsBy Fits old h c (Opened k (record_of old c).regs step
      ∷ []))
      (sym ok)
      (adds bytes off steps faults setting may_end may_tear may_refuse must_refuse
      part grants after good
      old (running_step old c k step new.dev) c (Opened k (record_of old c).regs step) small
      (λ flash noted is_off told counted power. record {
        rule = (idle, granted, s.stopped);
        flash_after = flash;
        told = s.told ∙ told;
        noted_after = noted;
        counted = omega (arith, counted, s.cause.later);
        is_off_after = false;
        power = powered (off new.dev) (must_refuse (setting old.dev) (steps new.dev)) on;
        setting_same = s.setting_same;
        left_room = refl;
        right_room = refl;
        leads = ap (λ (n : ℕ). state_of (running_step old c k step new.dev) flash n noted false)
            (sym s.counted);
      }))

  abbrev Polling : D → D → Option Step → Result Ready NorFault → Type 0
  Polling = Polls bytes off steps faults setting may_end may_tear

  -- a step that still runs
  busy_is : (old new : Hub D K) (c : ℕ) (run : Running) → new ≡ with_device old new.dev
      → Polling old.dev new.dev (step_of (Some run)) (Ok answers.Busy)
      → GoesOn StandsBy Fits old new c []
  busy_is old new c run is p =
      subst (λ (h : Hub D K). GoesOn StandsBy Fits old h c []) (sym is)
      (still bytes off steps faults setting may_end may_tear may_refuse must_refuse
      part grants after good
      old (with_device old new.dev) c (λ flash noted is_off told counted power. record {
        told = p.busy refl ∙ told;
        counted = omega (arith, counted, p.cause.later);
        power = record {
          went_off = λ is. absurd (clash is);
          came_back = λ is on. subst (λ (n : ℕ). ¬ must_refuse (setting old.dev) n) (sym
              p.steps_same)
              (power.came_back is p.powered);
        };
        setting_same = p.setting_same;
        left_room = refl;
        right_room = refl;
        leads = ap (λ (n : ℕ). state_of (with_device old new.dev) flash n noted is_off)
            (sym p.steps_same);
      })) where
        clash : off new.dev ≡ true → ⊥
        clash is =
            let on : off new.dev ≡ false =
            power_on answers.Busy (faults old.dev) (faults new.dev) (off new.dev) p.cause in
            cc

  -- a step that has ended whole
  ready_is : (old new : Hub D K) (run : Running) (regs : Regs) → old.running ≡ Some run
      → run.core < 2
      → new ≡ ended_step old run regs ends.Done (after old.duty run.core run.step) new.dev
      → Polling old.dev new.dev (step_of (Some run)) (Ok answers.Ready)
      → GoesOn StandsBy Fits old new run.core (Closed run.k regs ∷ [])
  ready_is old new run regs runs small is p =
      let on : off new.dev ≡ false =
      power_on answers.Ready (faults old.dev) (faults new.dev) (off new.dev) p.cause in
      subst (λ (h : Hub D K). GoesOn StandsBy Fits old h run.core (Closed run.k regs ∷ [])) (sym is)
      (adds bytes off steps faults setting may_end may_tear may_refuse must_refuse
      part grants after good
      old (ended_step old run regs ends.Done (after old.duty run.core run.step) new.dev) run.core
      (Closed run.k regs) small (λ flash noted is_off told counted power. record {
        rule = (
          subst (λ (o : Option Running). Runs run.core (λ r. r.k
              ≡ run.k) o) (sym runs) (refl, refl),
          p.done refl,
        );
        flash_after = applied flash run.step;
        told = made_told flash told (p.made refl);
        noted_after = noted;
        counted = omega (arith, counted, p.cause.later);
        is_off_after = false;
        power = powered (off new.dev) (must_refuse (setting old.dev) (steps new.dev)) on;
        setting_same = p.setting_same;
        left_room = refl;
        right_room = refl;
        leads = ap (λ (o : Option Running). record (with_one (made_whole after
            (state_of old flash (steps old.dev) noted is_off) run.core o)
            (entry_of run.core run.k regs (Close ends.Done))) { running = None; is_off = false })
            runs
            ∙ ap (λ (n : ℕ). state_of (ended_step old run regs ends.Done
            (after old.duty run.core run.step) new.dev) (applied flash run.step) n noted false)
            (sym p.steps_same);
      })) where
        made_told : (flash : List ℕ) → bytes old.dev ≡ Some flash
            → IsMadeWhole (Some run.step) (bytes old.dev) (bytes new.dev)
            → bytes new.dev ≡ Some (applied flash run.step)
        made_told flash told made =
            subst (λ (t : Option (List ℕ)). IsMadeWhole (Some run.step) t (bytes new.dev)) told made

  -- a step that was broken off
  broken_is : (old new : Hub D K) (run : Running) (regs : Regs) (why : NorFault)
      → old.running ≡ Some run → run.core < 2
      → new ≡ ended_step old run regs (end_by why) old.duty new.dev
      → Polling old.dev new.dev (step_of (Some run)) (Err why)
      → GoesOn StandsBy Fits old new run.core (Broken run.k regs why (held (bytes new.dev)) ∷ [])
  broken_is old new run regs why runs small is p =
      subst (λ (h : Hub D K). GoesOn StandsBy Fits old h run.core
      (Broken run.k regs why (held (bytes new.dev)) ∷ [])) (sym is)
      (adds bytes off steps faults setting may_end may_tear may_refuse must_refuse
      part grants after good
      old (ended_step old run regs (end_by why) old.duty new.dev) run.core
      (Broken run.k regs why (held (bytes new.dev))) small (λ flash noted is_off told counted power.
      let left = subst (λ (t : Option (List ℕ)). IsLeftTorn (may_tear (setting old.dev) (steps
      old.dev))
      (Some run.step) t (bytes new.dev)) told p.torn in
      let is_left : held (bytes new.dev) ≡ left.0 = ap held left.1 in
      record {
        rule = (
          subst (λ (o : Option Running). Runs run.core (λ r. (r.k ≡ run.k)
              × Torn flash r.step (held (bytes new.dev))
              × may_tear (setting old.dev) (steps old.dev) flash r.step (held (bytes new.dev))) o)
              (sym runs) (
                refl,
                (
                  refl,
                  subst (λ (g : List ℕ). Torn flash run.step g) (sym is_left) left.2,
                  subst (λ (g : List ℕ). may_tear (setting old.dev) (steps old.dev) flash
                      run.step g)
                      (sym is_left) left.3,
                ),
              ),
          p.ended,
        );
        flash_after = held (bytes new.dev);
        told = left.1 ∙ ap Some (sym is_left);
        noted_after = noted_by why noted;
        counted = counted_by why (faults old.dev) (faults new.dev) noted (off new.dev) p.cause
            counted;
        is_off_after = off_by why;
        power = power_by why (faults old.dev) (faults new.dev) (off new.dev)
            (must_refuse (setting old.dev) (steps new.dev)) p.cause;
        setting_same = p.setting_same;
        left_room = refl;
        right_room = refl;
        leads = ap (λ (n : ℕ). state_of (ended_step old run regs (end_by why) old.duty new.dev)
            (held (bytes new.dev)) n (noted_by why noted) (off_by why)) (sym p.steps_same);
      }))

  polls_by : (old new : Hub D K) (run : Running) (regs : Regs) (r : Result Ready NorFault)
      → old.running ≡ Some run → run.core < 2 → new ≡ after_poll after old run regs r new.dev
      → Polling old.dev new.dev (step_of (Some run)) r
      → GoesOn StandsBy Fits old new run.core (polled run.k regs (held (bytes new.dev)) r)
  polls_by old new run regs (Ok answers.Busy) runs small is p = busy_is old new run.core run is p
  polls_by old new run regs (Ok answers.Ready) runs small is p = ready_is old new run regs runs
      small is p
  polls_by old new run regs (Err why) runs small is p = broken_is old new run regs why runs small
      is p

  -- a poll
  pub polls : (old new : Hub D K) (c : ℕ) (regs : Regs) (r : Result Ready NorFault) → c < 2
      → core_of old.running ≡ Some c → regs ≡ (record_of old c).regs
      → IfSome old.running (λ run. new ≡ after_poll after old run regs r new.dev)
      → Polling old.dev new.dev (step_of old.running) r
      → GoesOn StandsBy Fits old new c
      (polled (number_of old.running) (record_of old c).regs (held (bytes new.dev)) r)
  polls old new c regs r small core regs_are is p = by_run old.running refl where
    same : {A : Type 0} (a b : A) → ◌≡◌ {A = Option A} (Some a) (Some b) → a ≡ b
    same a b e = cc

    by_run : (o : Option Running) → old.running ≡ o → GoesOn StandsBy Fits old new c
        (polled (number_of old.running) (record_of old c).regs (held (bytes new.dev)) r)
    by_run None runs = absurd (subst (λ (o : Option Running). core_of o ≡ Some c
        → ⊥) (sym runs) (λ e. cc) core)
    by_run (Some run) runs =
        let at : run.core ≡ c =
        same run.core c (subst (λ (o : Option Running). core_of o ≡ Some c) runs core) in
        let less : run.core < 2 = omega arith in
        let done : new ≡ after_poll after old run (record_of old c).regs r new.dev =
        subst (λ (g : Regs). new ≡ after_poll after old run g r new.dev) regs_are
        (subst (λ (o : Option Running). IfSome o (λ run. new
        ≡ after_poll after old run regs r new.dev)) runs is) in
        let device : Polling old.dev new.dev (step_of (Some run)) r =
        subst (λ (o : Option Running). Polling old.dev new.dev (step_of o) r) runs p in
        let found = polls_by old new run (record_of old c).regs r runs less done device in
        subst (λ (o : Option Running). GoesOn StandsBy Fits old new c
        (polled (number_of o) (record_of old c).regs (held (bytes new.dev)) r)) (sym runs)
        (subst (λ (n : ℕ). GoesOn StandsBy Fits old new n
        (polled run.k (record_of old c).regs (held (bytes new.dev)) r)) at found)

  module _ (size : D → ℕ) where
    abbrev Asking : D → D → Result (Unit {0}) NorFault → Type 0
    Asking = Asks bytes size off steps faults setting may_refuse must_refuse

    -- a read
    pub reads : (old new : Hub D K) (c : ℕ) (r : Result (Unit {0}) NorFault) → c < 2
        → old.running ≡ None → new ≡ with_device old new.dev → Asking old.dev new.dev r
        → GoesOn StandsBy Fits old new c (asked r)
    reads old new c (Err why) small idle is a =
        subst (λ (h : Hub D K). GoesOn StandsBy Fits old h c (Denied why ∷ [])) (sym is)
        (denied old new.dev c why small idle a.told a.steps_same a.setting_same a.allowed a.cause)
    reads old new c (Ok u) small idle is a =
        subst (λ (h : Hub D K). GoesOn StandsBy Fits old h c []) (sym is)
        (still bytes off steps faults setting may_end may_tear may_refuse must_refuse
        part grants after good
        old (with_device old new.dev) c (λ flash noted is_off told counted power. record {
          told = a.told ∙ told;
          counted = omega (arith, counted, a.cause.later);
          power = record {
            went_off = λ is. absurd (clash is);
            came_back = λ is on. subst (λ (n : ℕ). ¬ must_refuse (setting old.dev) n) (sym
                a.steps_same)
                a.stopped;
          };
          setting_same = a.setting_same;
          left_room = refl;
          right_room = refl;
          leads = ap (λ (n : ℕ). state_of (with_device old new.dev) flash n noted is_off)
              (sym a.steps_same);
        })) where
          clash : off new.dev ≡ true → ⊥
          clash is =
              let on : off new.dev ≡ false = power_on u (faults old.dev) (faults new.dev) (off
              new.dev) a.cause in
              cc
