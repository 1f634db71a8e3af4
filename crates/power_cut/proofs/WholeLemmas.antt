-- An update from leg to leg: what each leg finds, and what is left where it is the last.
use Rattle.std.proofs.Common.{◌≡◌, ◌≢◌, ◌⊎◌, inl, inr, Bool, true, false, ℕ, ◌==◌, ◌<◌, ◌^◌, List, [], ◌∷◌, append-nil, length, Option, Some, None, Result, Ok, Err, refl, sym, ap, ◌∙◌, subst, arith}
use Rattle.std.specs.Prelude.{◌&&◌, nat_lt, if◌then◌else◌, IfOk}
use Rattle.std.specs.Borrow.{Bor}
use Rattle.std.proofs.lemmas.Bool.{cases_Bool}
use Rattle.std.proofs.lemmas.Bool.Decides.{nat_tests}
use Rattle.nor_device.specs.declared.step.Step.{Step}
use Rattle.nor_device.specs.Flash.{after_steps}
use Rattle.nor_device.specs.Ram.{Ram}
use Rattle.crash_images.specs.declared.cut.Health.{Health}
use Rattle.crash_images.specs.declared.cut.Health.TheVariants as is
use Rattle.crash_images.specs.Cut.{CutDevice, IsAhead, restarted, unspent_of}
use Rattle.crash_images.specs.Crash.{LeftAfter}
use Rattle.partition_table.specs.declared.app.App.{App}
use Rattle.partition_table.specs.Layout.{IsPlaced, Places}
use Rattle.otadata.specs.Entry.{IsStored}
use Rattle.boot_select.specs.Boots.{entries_in}
use Rattle.rollback.specs.declared.rewrite.Rewrite.{Rewrite}
use Rattle.rollback.specs.Boots.{boots_in}
use Rattle.rollback.specs.Rewrite.{restated, with_state}
use Rattle.image_layout.specs.Whole.{Whole}
use Rattle.image_verify.specs.declared.bad.BadImage.{BadImage}
use Rattle.image_verify.specs.Bad.{bad}
use Rattle.image_verify.specs.Held.{held}
use Rattle.boot_run.specs.declared.aims.Aim.{Aim}
use Rattle.boot_run.specs.declared.booted.Booted.{Booted}
use Rattle.boot_run.specs.Rewriting.{rewrite, rewrites}
use Rattle.boot_run.specs.Verified.{Starts}
use Rattle.update_steps.specs.Beside.{StandsBeside}
use Rattle.update_steps.specs.Driver.{driver_steps}
use Rattle.update_steps.proofs.SessionLemmas.{ShowsNone}
use Rattle.power_cut.specs.declared.legs.Leg.{Leg}
use Rattle.power_cut.specs.declared.legs.LegEnd.{LegEnd}
use Rattle.power_cut.specs.declared.legs.LegEnd.TheVariants.{Done, Device, Cut, FirstByte, Empty, Bad}
use Rattle.power_cut.specs.declared.legs.Ran.{Ran}
use Rattle.power_cut.specs.declared.legs.Upto.{Upto}
use Rattle.power_cut.specs.declared.legs.Upto.TheVariants.{Session, Boot, Confirm}
use Rattle.power_cut.specs.declared.outcome.Trial.{Trial}
use Rattle.power_cut.specs.Device.{HasEnd, IsReady, IsWholeEnd, running_in}
use Rattle.power_cut.specs.Update.{BootsEither, Opens, sealed_end, session_end, slot_size}
use Rattle.power_cut.specs.Kept.{IsStarted, KeepsConfirm, KeepsSession, MayConfirm}
use Rattle.power_cut.specs.Whole.{AreDone, BehindBoot, BehindSession, BootsNew, BootsNewBehind, EndsAsChosen, EndsWith, HasBooted, HoldsBoot, HoldsConfirm, IsBootLeg, IsClosed, IsOutcome, confirm_of, is_done, wants_boot, wants_confirm}
use Rattle.boot_run.specs.BootSteps.{boot_steps}
use Rattle.power_cut.specs.Behind.{IsAnnounced, IsBehind}
use Rattle.power_cut.proofs.ChosenLemmas.{boot_chosen, confirm_chosen, session_chosen}
use Rattle.power_cut.proofs.BehindLemmas.{announced_active, announced_boots, announced_writes, behind_boots, behind_some, beside_behind, beside_here, booted_first, booted_waits, confirmed_new, confirming, left_behind, session_announced, two, waiting}

-- what follows of an answer
pub if_ok : {T E : Type 0} {P Q : T → Type 0} (r : Result T E) → ((x : T) → P x → Q x) → IfOk r P
    → IfOk r Q
if_ok (Ok x) more is = more x is
if_ok (Err why) more is = tt

-- ---- ends

-- a leg that is made whole ended with Done
pub done_is : (end : LegEnd) → is_done end ≡ true → end ≡ Done
done_is Done is = refl
done_is (Device k) is = absurd cc
done_is (Cut k) is = absurd cc
done_is (FirstByte byte) is = absurd cc
done_is Empty is = absurd cc
done_is (Bad why) is = absurd cc

-- and did not break off
done_whole : (end : LegEnd) → is_done end ≡ true → IsWholeEnd end
done_whole Done is = tt
done_whole (Device k) is = absurd cc
done_whole (Cut k) is = absurd cc
done_whole (FirstByte byte) is = absurd cc
done_whole Empty is = absurd cc
done_whole (Bad why) is = absurd cc

-- where a session ends so, its image is whole
pub sealed_whole : ShowsNone → (size : ℕ) (image : List ℕ) → session_end size image ≡ Done
    → Whole image size
sealed_whole shown size [] is = absurd cc
sealed_whole shown size (byte ∷ bytes) is = at (cases_Bool (byte == 0xE9))
  where
    image : List ℕ
    image = byte ∷ bytes

    none : (found : Option BadImage) → bad size image ≡ found → sealed_end found ≡ Done
        → Whole image size
    none None shows end = (shown size image).0 shows
    none (Some why) shows end = absurd cc

    at : ((byte == 0xE9) ≡ true) ⊎ ((byte == 0xE9) ≡ false) → Whole image size
    at (inl p) = none (bad size image) refl
        (subst (λ t. (if t then sealed_end (bad size image) else FirstByte byte) ≡ Done) p is)
    at (inr p) =
        let end : FirstByte byte ≡ Done =
        subst (λ t. (if t then sealed_end (bad size image) else FirstByte byte) ≡ Done) p is in
        absurd cc

-- ---- the device

-- no step runs inside where none runs
idle_inside : (dev : CutDevice Ram) → running_in dev ≡ None → dev.inner.running ≡ None
idle_inside dev idle = at dev.health idle
  where
    at : (health : Health) → running_in (record dev { health = health }) ≡ None
        → dev.inner.running ≡ None
    at is.Sound none = none
    at (is.Due step) none = absurd cc
    at is.Off none = none
    at is.Failed none = none

-- a chosen number that is ahead is not spent
unspent_ahead : (chosen : Option ℕ) (n : ℕ) → IsAhead (unspent_of chosen n) n
unspent_ahead None n = tt
unspent_ahead (Some k) n = at (cases_Bool (nat_lt n k))
  where
    at : (nat_lt n k ≡ true) ⊎ (nat_lt n k ≡ false) → IsAhead (unspent_of (Some k) n) n
    at (inl p) = rw p (grind (arith, nat_tests))
    at (inr p) = rw p tt

-- with its power on again it is ready
pub restarted_ready : (dev : CutDevice Ram) → running_in dev ≡ None → IsReady (restarted dev)
restarted_ready dev idle = record {
  idle = idle_inside dev idle;
  on = refl;
  ahead = record {
    cut_ahead = unspent_ahead dev.cut dev.steps;
    fail_ahead = unspent_ahead dev.fail dev.steps;
  };
}

-- ---- from leg to leg

module _ (shown : ShowsNone) (layout : Places) (aim : Aim) (image : List ℕ) (old : CutDevice Ram)
    (opens : Opens layout old.inner.bytes aim image) where
  abbrev first : List ℕ
  first = old.inner.bytes

  -- a flash of this size has room for the layout
  pub still_placed : (now : List ℕ) → length now ≡ length first → IsPlaced layout (length now)
  still_placed now same = subst (IsPlaced layout) (sym same) opens.placed

  -- once all steps of a session are made whose image is whole, the new application boots
  pub session_new : session_end (slot_size layout aim.slot) image ≡ Done
      → BootsNewBehind layout aim image first (driver_steps layout aim image)
  session_new done = λ others left apart stands.
      announced_boots layout first aim image opens left
      (session_announced layout first aim image opens shown others left apart
      (sealed_whole shown (slot_size layout aim.slot) image done) stands)

  module _ (ran : Ran) (keeps : KeepsSession layout aim image old ran) where
    -- behind a session that is made whole the new application is announced
    pub announced : is_done ran.leg.end ≡ true
        → IsAnnounced layout first aim image 0 ran.dev.inner.bytes
    announced done =
        session_announced layout first aim image opens shown keeps.others ran.dev.inner.bytes
        keeps.apart
        (sealed_whole shown (slot_size layout aim.slot) image (sound keeps.ran_is.end))
        (keeps.done (done_whole ran.leg.end done))
      where
        sound : HasEnd old ran.dev.steps (session_end (slot_size layout aim.slot) image)
            ran.leg.end
            → session_end (slot_size layout aim.slot) image ≡ Done
        sound end = (subst (HasEnd old ran.dev.steps (session_end
            (slot_size layout aim.slot) image))
            (done_is ran.leg.end done) end).1

    module _ (done : is_done ran.leg.end ≡ true) where
      abbrev mid : List ℕ
      mid = ran.dev.inner.bytes

      steps_are : boot_steps layout mid ≡ rewrite layout.otadata
          (waiting layout first aim image opens)
      steps_are = ap (rewrites layout.otadata) (announced_writes layout first aim image opens mid
          (announced done))

      -- what is left of the boot stands behind the data
      pub booted_behind : (left : List ℕ) → LeftAfter mid (boot_steps layout mid) left
          → IsBehind layout first aim image left
      booted_behind left after =
          left_behind layout first aim image opens mid left
          (waiting layout first aim image opens) (announced done).behind refl
          (omega (arith, opens.stored.sized.label))
          (subst (λ (steps : List Step). LeftAfter mid steps left) steps_are after)

      -- so one of both applications boots at every moment of it
      pub boot_holds : HoldsBoot layout first aim image mid
      boot_holds = λ left after.
          let behind = booted_behind left after in (
            behind_boots layout first aim image opens left behind,
            behind_some layout first aim image opens left behind,
          )

      module _ (dev : CutDevice Ram) (leg : Leg) (at : Booted)
          (booted : HasBooted layout (restarted ran.dev) dev leg (Some at)) where
        made_is : dev.inner.bytes
            ≡ after_steps mid (rewrite layout.otadata (waiting layout first aim image opens))
        made_is = booted.2 ∙ ap (after_steps mid) steps_are

        -- the new entry waits
        pub waits : IsAnnounced layout first aim image 1 dev.inner.bytes
        waits = subst (IsAnnounced layout first aim image 1) (sym made_is)
            (booted_waits layout first aim image opens mid (announced done))

        started : IsStarted layout dev.inner.bytes at
        started =
            let same = booted_first layout first aim image opens mid (announced done) in
            subst (λ (f : List ℕ). IsStarted layout f at) (sym made_is)
            (subst (λ (b : Option (App × List ℕ)). Starts b at.app at.info) same booted.3)

        -- so the confirmation may be run
        pub may_confirm : (write : Rewrite) → write ≡ confirming layout first aim image opens
            → MayConfirm layout first dev at write
        may_confirm write is =
            let here : entries_in layout dev.inner.bytes aim.next.sector
            ≡ with_state 1 aim.next.entry = waits.here in
            subst (MayConfirm layout first dev at) (sym is) (record {
              ready = booted.0;
              size = waits.behind.size;
              table = waits.behind.table;
              started = started;
              confirming = record {
                two = two layout first aim image opens;
                active = announced_active layout first aim image opens 1 dev.inner.bytes
                    (omega arith) waits;
                write_is = ap (restated 2 aim.next.sector) (sym here);
              };
              some = behind_some layout first aim image opens dev.inner.bytes waits.behind;
            })

        -- one of both applications boots at every moment of it
        pub confirm_holds : (write : Rewrite) → write ≡ confirming layout first aim image opens
            → HoldsConfirm layout first aim image dev.inner.bytes write
        confirm_holds write is = λ others left apart holds.
            behind_boots layout first aim image opens left
            (beside_behind layout first aim image opens others dev.inner.bytes left write
            holds.made holds.rest apart waits.behind (ap (λ (w : Rewrite). w.sector) is)
            (let short = opens.stored.sized.label in
            let same : length write.entry.label ≡ length aim.next.entry.label =
            ap (λ (w : Rewrite). length w.entry.label) is in omega (arith, short, same))
            holds.split holds.stands)

        -- and once all of its steps are made, the new one
        pub confirm_new : (write : Rewrite) → write ≡ confirming layout first aim image opens
            → BootsNewBehind layout aim image dev.inner.bytes (rewrite layout.otadata write)
        confirm_new write is = λ others left apart stands.
            let valid : Rewrite = confirming layout first aim image opens in
            let here : StandsBeside dev.inner.bytes (rewrite layout.otadata valid) [] others left =
            subst (λ (w : Rewrite). StandsBeside dev.inner.bytes (rewrite layout.otadata w) [] others
            left) is stands in
            confirmed_new layout first aim image opens dev.inner.bytes left waits (record {
              behind = beside_behind layout first aim image opens others dev.inner.bytes left valid
                  (rewrite layout.otadata valid) [] apart waits.behind refl
                  (omega (arith, opens.stored.sized.label))
                  (sym (append-nil (rewrite layout.otadata valid))) here;
              here = beside_here layout first aim image opens others dev.inner.bytes left valid apart
                  waits.behind refl stored here;
            })
          where
            stored : IsStored (with_state 2 aim.next.entry)
            stored = record {
              sized = record {
                seq = opens.stored.sized.seq;
                label = opens.stored.sized.label;
                state = omega arith;
                crc = opens.stored.sized.crc;
              };
              label = opens.stored.label;
            }

        module _ (write : Rewrite) (write_is : write ≡ confirming layout first aim image opens)
            (last : Ran) (kept : KeepsConfirm layout write dev last) where
          kept_new : KeepsConfirm layout (confirming layout first aim image opens) dev last
          kept_new = subst (λ w. KeepsConfirm layout w dev last) write_is kept

          -- what is left of the confirmation stands behind the data
          pub confirmed_behind : IsBehind layout first aim image last.dev.inner.bytes
          confirmed_behind =
              beside_behind layout first aim image opens kept_new.others dev.inner.bytes
              last.dev.inner.bytes (confirming layout first aim image opens) kept_new.holds.made
              kept_new.holds.rest kept_new.apart waits.behind refl
              (omega (arith, opens.stored.sized.label)) kept_new.holds.split
              kept_new.holds.stands

          -- where it is made whole, the new application boots
          pub confirmed_boots_new : is_done last.leg.end ≡ true
              → BootsNew layout aim image last.dev.inner.bytes
          confirmed_boots_new whole =
              confirm_new write write_is kept.others last.dev.inner.bytes kept.apart
              (kept.done (done_whole last.leg.end whole))

  -- ---- the outcome, where this leg is the last

  abbrev Writes : Type 1
  Writes = Ran → Type 0

  abbrev Confirms : Type 1
  Confirms = CutDevice Ram → Bor Booted → Bor Rewrite → Ran → Type 0

  module _ (upto : Upto) (ran : Ran) (keeps : KeepsSession layout aim image old ran) where
    -- the session
    pub outcome_session : (writes : Writes) (confirms : Confirms) (t : Trial) (legs : List Leg)
        → writes ran → legs ≡ ran.leg ∷ [] → (wants_boot upto && is_done ran.leg.end) ≡ false
        → IsClosed layout legs ran.journal None ran.dev t
        → IsOutcome writes confirms layout old aim image upto t
    outcome_session writes confirms t legs written legs_are stops closed = record {
      trial = record {
        session = ran;
        written = written;
        journal = closed.session_is;
        announced = session_new;
        behind = subst (λ b. BehindSession confirms layout first aim image b upto ran.leg ran.dev t)
            (sym stops)
            (subst (λ (l : List Leg). EndsWith l None ran.dev t) legs_are closed.ends);
      };
      end = subst (EndsAsChosen old) (sym (closed.ends.legs_are ∙ legs_are))
          (session_chosen old ran (session_end (slot_size layout aim.slot) image) keeps.ran_is);
      boots = subst (BootsEither layout first aim image) (sym closed.ends.flash_is)
          keeps.holds.boots;
      after = closed.after;
      installed = λ no_boot done.
          subst (BootsNew layout aim image) (sym closed.ends.flash_is)
          (at upto stops no_boot
          (ap is_done (subst AreDone (closed.ends.legs_are ∙ legs_are) done).0));
    }
      where
        at : (u : Upto) → (wants_boot u && is_done ran.leg.end) ≡ false → u ≢ Boot
            → is_done ran.leg.end ≡ true → BootsNew layout aim image ran.dev.inner.bytes
        at Session halts no_boot done =
            announced_boots layout first aim image opens ran.dev.inner.bytes
            (announced ran keeps done)
        at Boot halts no_boot done = absurd (no_boot refl)
        at Confirm halts no_boot done = absurd (let e = sym halts ∙ done in cc)

    -- a session that is followed by a boot was made whole
    went_done : (u : Upto) (end : LegEnd) → (wants_boot u && is_done end) ≡ true
        → is_done end ≡ true
    went_done Session end goes = absurd cc
    went_done Boot end goes = goes
    went_done Confirm end goes = goes

    -- a boot of the device, with its power on again
    module _ (goes : (wants_boot upto && is_done ran.leg.end) ≡ true) (mid dev : CutDevice Ram)
        (mid_is : mid ≡ restarted ran.dev) (leg : Leg) (booted : Option Booted)
        (left : LeftAfter mid.inner.bytes (boot_steps layout mid.inner.bytes) dev.inner.bytes)
      where
        done_here : is_done ran.leg.end ≡ true
        done_here = went_done upto ran.leg.end goes

        behind_boot : IsBehind layout first aim image dev.inner.bytes
        behind_boot = booted_behind ran keeps done_here dev.inner.bytes
            (subst (λ (d : CutDevice Ram). LeftAfter d.inner.bytes
            (boot_steps layout d.inner.bytes) dev.inner.bytes) mid_is left)

        -- some application boots of what is left
        pub booted_some : boots_in held layout dev.inner.bytes ≢ None
        booted_some = behind_some layout first aim image opens dev.inner.bytes behind_boot

        pub booted_placed : IsPlaced layout (length dev.inner.bytes)
        booted_placed = still_placed dev.inner.bytes behind_boot.size

        module _ (has_booted : HasBooted layout mid dev leg booted) where
          has : HasBooted layout (restarted ran.dev) dev leg booted
          has = subst (λ (d : CutDevice Ram). HasBooted layout d dev leg booted) mid_is has_booted

          -- the boot
          pub outcome_boot : (writes : Writes) (confirms : Confirms) (t : Trial) (legs : List Leg)
              → writes ran → legs ≡ ran.leg ∷ leg ∷ [] → IsBootLeg layout mid dev leg
              → confirm_of upto booted ≡ None → IsClosed layout legs ran.journal None dev t
              → IsOutcome writes confirms layout old aim image upto t
          outcome_boot writes confirms t legs written legs_are boot_is none closed = record {
            trial = record {
              session = ran;
              written = written;
              journal = closed.session_is;
              announced = session_new;
              behind = subst
                  (λ b. BehindSession confirms layout first aim image b upto ran.leg ran.dev t)
                  (sym goes) (record {
                    new = dev;
                    leg = leg;
                    booted = subst (λ (d : CutDevice Ram). IsBootLeg layout d dev leg) mid_is
                        boot_is;
                    moments = boot_holds ran keeps done_here;
                    behind = subst (λ b. BehindBoot confirms layout first aim image b
                        (ran.leg ∷ leg ∷ []) dev t) (sym (stops upto booted none has))
                        (subst (λ (l : List Leg). EndsWith l None dev t) legs_are closed.ends);
                  });
            };
            end = subst (EndsAsChosen old) (sym (closed.ends.legs_are ∙ legs_are))
                (boot_chosen old ran (session_end (slot_size layout aim.slot) image) keeps.ran_is
                (done_is ran.leg.end done_here) dev leg
                (subst (λ (d : CutDevice Ram). IsBootLeg layout d dev leg) mid_is boot_is).ran);
            boots = subst (BootsEither layout first aim image) (sym closed.ends.flash_is)
                (behind_boots layout first aim image opens dev.inner.bytes behind_boot);
            after = closed.after;
            installed = λ no_boot done. absurd (at upto goes no_boot (stops upto booted none has)
                (ap is_done (subst AreDone (closed.ends.legs_are ∙ legs_are) done).1.0));
          }
            where
              stops : (u : Upto) (b : Option Booted) → confirm_of u b ≡ None
                  → HasBooted layout (restarted ran.dev) dev leg b
                  → (wants_confirm u && is_done leg.end) ≡ false
              stops Session b none has = refl
              stops Boot b none has = refl
              stops Confirm None none has = has
              stops Confirm (Some it) none has = absurd cc

              at : (u : Upto) → (wants_boot u && is_done ran.leg.end) ≡ true → u ≢ Boot
                  → (wants_confirm u && is_done leg.end) ≡ false → is_done leg.end ≡ true → ⊥
              at Session goes no_boot halts done = cc goes
              at Boot goes no_boot halts done = no_boot refl
              at Confirm goes no_boot halts done = let e = sym halts ∙ done in cc e

          -- what is to be confirmed was booted
          confirms_booted : (u : Upto) (b : Option Booted) (it : Booted) → confirm_of u b ≡ Some it
              → HasBooted layout (restarted ran.dev) dev leg b
              → HasBooted layout (restarted ran.dev) dev leg (Some it) × (wants_confirm u ≡ true)
          confirms_booted Session b it is has = absurd cc
          confirms_booted Boot b it is has = absurd cc
          confirms_booted Confirm b it is has =
              (subst (HasBooted layout (restarted ran.dev) dev leg) is has, refl)

          module _ (it : Booted) (is : confirm_of upto booted ≡ Some it) (write : Rewrite)
              (write_is : write ≡ restated 2 aim.next.sector aim.next.entry) where
            whole_boot : HasBooted layout (restarted ran.dev) dev leg (Some it)
            whole_boot = (confirms_booted upto booted it is has).0

            pub confirm_may : MayConfirm layout first dev it write
            confirm_may = may_confirm ran keeps done_here dev leg it whole_boot write write_is

            module _ (last : Ran) (kept : KeepsConfirm layout write dev last) where
              behind_last : IsBehind layout first aim image last.dev.inner.bytes
              behind_last = confirmed_behind ran keeps done_here dev leg it whole_boot write
                  write_is
                  last kept

              pub last_some : boots_in held layout last.dev.inner.bytes ≢ None
              last_some = behind_some layout first aim image opens last.dev.inner.bytes behind_last

              pub last_placed : IsPlaced layout (length last.dev.inner.bytes)
              last_placed = still_placed last.dev.inner.bytes behind_last.size

              pub last_small : length first < 2 ^ 32 → length last.dev.inner.bytes < 2 ^ 32
              last_small small = omega (arith, small, behind_last.size)

              -- the confirmation
              pub outcome_confirm : (writes : Writes) (confirms : Confirms) (t : Trial)
                  (legs : List Leg) → writes ran → legs ≡ ran.leg ∷ leg ∷ last.leg ∷ []
                  → IsBootLeg layout mid dev leg
                  → (at : Bor Booted) (of : Bor Rewrite) → confirms dev at of last → at.now ≡ it
                  → of.now ≡ write → IsClosed layout legs ran.journal (Some last.journal) last.dev t
                  → IsOutcome writes confirms layout old aim image upto t
              outcome_confirm writes confirms t legs written legs_are boot_is at of confirmed at_is
                  of_is closed = record {
                    trial = record {
                      session = ran;
                      written = written;
                      journal = closed.session_is;
                      announced = session_new;
                      behind = subst
                          (λ b. BehindSession confirms layout first aim image b upto ran.leg
                          ran.dev t) (sym goes) (record {
                            new = dev;
                            leg = leg;
                            booted = subst (λ
                                (d : CutDevice Ram). IsBootLeg layout d dev leg) mid_is
                                boot_is;
                            moments = boot_holds ran keeps done_here;
                            behind = subst (λ b. BehindBoot confirms layout first aim image b
                                (ran.leg ∷ leg ∷ []) dev t) (sym goes_on) (record {
                                  at = at;
                                  write = of;
                                  may = subst (λ b. MayConfirm layout first dev b of.now)
                                      (sym at_is)
                                      (subst (MayConfirm layout first dev it)
                                      (sym of_is) confirm_may);
                                  ran = last;
                                  confirmed = confirmed;
                                  moments = confirm_holds ran keeps done_here dev leg it whole_boot
                                      of.now (of_is ∙ write_is);
                                  once = confirm_new ran keeps done_here dev leg it whole_boot
                                      of.now (of_is ∙ write_is);
                                  ends = subst
                                      (λ (l : List Leg). EndsWith l (Some last.journal) last.dev t)
                                      legs_are closed.ends;
                                });
                          });
                    };
                    end = subst (EndsAsChosen old) (sym (closed.ends.legs_are ∙ legs_are))
                        (confirm_chosen old ran (session_end (slot_size layout aim.slot) image)
                        keeps.ran_is (done_is ran.leg.end done_here) dev leg
                        (subst (λ (d : CutDevice Ram). IsBootLeg layout d dev leg) mid_is
                        boot_is).ran
                        last kept.ran_is);
                    boots = subst (BootsEither layout first aim image) (sym closed.ends.flash_is)
                        (behind_boots layout first aim image opens last.dev.inner.bytes
                        behind_last);
                    after = closed.after;
                    installed = λ no_boot done.
                        subst (BootsNew layout aim image) (sym closed.ends.flash_is)
                        (confirmed_boots_new ran keeps done_here dev leg it whole_boot write
                        write_is
                        last kept
                        (ap is_done (subst AreDone (closed.ends.legs_are ∙ legs_are) done).1.1.0));
                  }
                where
                  goes_on : (wants_confirm upto && is_done leg.end) ≡ true
                  goes_on = both (wants_confirm upto) (is_done leg.end)
                      (confirms_booted upto booted it is has).1 whole_boot.1
                    where
                      both : (a b : Bool) → a ≡ true → b ≡ true → (a && b) ≡ true
                      both true b one two = two
                      both false b one two = absurd cc
