-- How many steps an update begins: no more than its files and its words give, and all of these
-- where neither chosen step was begun.
use Rattle.std.proofs.Common.{◌≡◌, inl, inr, ℕ, ◌+◌, ◌^◌, ◌<◌, ◌≤◌, Bool, true, false, List, [], ◌∷◌, length, Option, Some, None, refl, sym, ap, ◌∙◌, arith, subst}
use Rattle.std.specs.Prelude.{◌&&◌, nat_le, if◌then◌else◌}
use Rattle.std.proofs.lemmas.Bool.Decides.{nat_tests}
use Rattle.std.specs.Borrow.{Bor}
use Rattle.nor_device.specs.declared.step.Step.{Step}
use Rattle.nor_device.specs.Ram.{Ram}
use Rattle.crash_images.specs.Cut.{CutDevice, IsAhead, NotBoth, restarted}
use Rattle.partition_table.specs.Layout.{Places}
use Rattle.rollback.specs.declared.rewrite.Rewrite.{Rewrite}
use Rattle.boot_run.specs.declared.aims.Aim.{Aim}
use Rattle.boot_run.specs.declared.booted.Booted.{Booted}
use Rattle.boot_run.specs.Rewriting.{rewrites}
use Rattle.update_steps.specs.Beside.{IsApart}
use Rattle.update_steps.specs.Driver.{driver_steps}
use Rattle.update_steps.proofs.SessionLemmas.{ShowsNone}
use Rattle.power_cut.specs.declared.legs.Leg.{Leg}
use Rattle.power_cut.specs.declared.legs.LegEnd.{LegEnd}
use Rattle.power_cut.specs.declared.legs.LegEnd.TheVariants.{Done, Device, Cut, FirstByte, Empty, Bad}
use Rattle.power_cut.specs.declared.legs.Ran.{Ran}
use Rattle.power_cut.specs.declared.legs.Upto.{Upto}
use Rattle.power_cut.specs.declared.legs.Upto.TheVariants.{Session, Boot, Confirm}
use Rattle.power_cut.specs.declared.outcome.Trial.{Trial}
use Rattle.power_cut.specs.Behind.{IsAnnounced}
use Rattle.power_cut.specs.Device.{HasEnd, IsRan, IsUnbroken, IsWholeEnd}
use Rattle.power_cut.specs.Installed.{AllLieIn, written_flash}
use Rattle.power_cut.specs.Update.{Opens, session_end, slot_size}
use Rattle.power_cut.specs.Whole.{BehindBoot, BehindSession, IsBootLeg, IsTrial, is_done, wants_boot, wants_confirm}
use Rattle.boot_run.specs.BootSteps.{boot_steps}
use Rattle.power_cut.proofs.BehindLemmas.{announced_writes}
use Rattle.power_cut.proofs.InstalledLemmas.{session_announces, session_leaves}
use Rattle.duo_run.proofs.TakenLegs.{AnyMap, CountsTo, TakenConfirm, TakenSession, boot_counts, confirm_counts, session_counts, unbroken_whole}
use Rattle.duo_run.proofs.TakenLemmas.{HasTaken}
use Rattle.power_cut.specs.StepCount.{IsCounted, boot_count, confirm_count, session_count, update_count}
use Rattle.update_run.specs.Updating.{chosen_end, steps_in}
use Rattle.update_run.proofs.EndLemmas.{Chooses, Leads, again, done_is, leads, second_true}

-- ---- one leg

-- both chosen numbers are ahead
unbroken_by : (cut fail : Option ℕ) (n now : ℕ) (dev : CutDevice Ram) → Chooses cut fail n dev
    → IsAhead cut now → IsAhead fail now → IsUnbroken dev now
unbroken_by cut fail n now dev chooses one two = record {
  cut_ahead = subst (λ (c : Option ℕ). IsAhead c now) (sym chooses.cut_is) one;
  fail_ahead = subst (λ (c : Option ℕ). IsAhead c now) (sym chooses.fail_is) two;
}

-- a leg behind so many steps did not break off
leg_unbroken : (cut fail : Option ℕ) (n : ℕ) (old new : CutDevice Ram) (whole : LegEnd) (leg : Leg)
    → Chooses cut fail n old → IsRan old new whole leg → IsAhead cut (n + leg.steps)
    → IsAhead fail (n + leg.steps) → IsUnbroken old new.steps
leg_unbroken cut fail n old new whole leg chooses ran one two =
    subst (IsUnbroken old) (sym (ran.steps ∙ ap (λ m. m + leg.steps) chooses.steps_are))
    (unbroken_by cut fail n (n + leg.steps) old chooses one two)

-- a whole end is that of the leg
same_end : (dev : CutDevice Ram) (now : ℕ) (whole end : LegEnd) → HasEnd dev now whole end
    → IsWholeEnd end → whole ≡ end
same_end dev now whole Done has is = has.1
same_end dev now whole (Device k) has is = absurd is
same_end dev now whole (Cut k) has is = absurd is
same_end dev now whole (FirstByte byte) has is = has.1
same_end dev now whole Empty has is = has.1
same_end dev now whole (Bad why) has is = has.1

-- what is to be confirmed
confirm_none : (upto : Upto) (work : List Step) (done : Bool) → done ≡ true
    → (wants_confirm upto && done) ≡ false → confirm_count upto work ≡ 0
confirm_none Session work done is halts = refl
confirm_none Boot work done is halts = refl
confirm_none Confirm work done is halts = absurd (let both = sym is ∙ halts in cc)

confirm_some : (upto : Upto) (work : List Step) (done : Bool)
    → (wants_confirm upto && done) ≡ true → confirm_count upto work ≡ 2 + length work
confirm_some Session work done goes = absurd cc
confirm_some Boot work done goes = absurd cc
confirm_some Confirm work done goes = refl

-- ---- an update

module _ (shown : ShowsNone) (layout : Places) (aim : Aim) (image : List ℕ) (old : CutDevice Ram)
    (opens : Opens layout old.inner.bytes aim image) (others : ℕ → Bool)
    (apart : IsApart layout others) (work : List Step) (theirs : AllLieIn others true work)
    (driver : ℕ) (below : driver < 2) (cut fail : Option ℕ) (one : NotBoth cut fail)
    (chooses : Chooses cut fail 0 old) (short : length (driver_steps layout aim image) ≤ 2 ^ 40)
    (few : length work ≤ 2 ^ 40) where
  abbrev first : List ℕ
  first = old.inner.bytes

  abbrev whole : LegEnd
  whole = session_end (slot_size layout aim.slot) image

  abbrev confirms : CutDevice Ram → Bor Booted → Bor Rewrite → Ran → Type 0
  confirms dev at write ran = TakenConfirm layout others write.now work driver dev ran

  abbrev sessions : ℕ
  sessions = session_count layout aim image work

  abbrev boots : ℕ
  boots = boot_count layout aim image work first

  -- behind the session, where the boot follows
  abbrev behind : Bool → Upto → ℕ
  behind goes upto = if goes then boots + confirm_count upto work else 0

  module _ (ran : Ran) (is : TakenSession layout others aim image work driver old ran) where
    begun : CountsTo old ran.dev ran.leg sessions
    begun = session_counts layout others work driver below old ran aim image is
        (let fresh = chooses.steps_are in omega (arith, fresh, short, few))

    led : Leads cut fail ran.leg.steps whole ran.dev ran.leg.end
    led =
        let number : 0 + ran.leg.steps ≡ ran.leg.steps = omega arith in
        subst (λ n. Leads cut fail n whole ran.dev ran.leg.end) number
        (leads cut fail 0 old ran.dev whole ran.leg one chooses is.ran_is)

    session_unbroken : IsAhead cut ran.leg.steps → IsAhead fail ran.leg.steps
        → IsUnbroken old ran.dev.steps
    session_unbroken a b =
        let number : ran.dev.steps ≡ ran.leg.steps = led.chooses.steps_are in
        subst (IsUnbroken old) (sym number)
        (unbroken_by cut fail 0 ran.leg.steps old chooses a b)

    -- the session is the last leg
    alone : (upto : Upto) (t : Trial) → (wants_boot upto && is_done ran.leg.end) ≡ false
        → steps_in t.legs.items ≡ ran.leg.steps
        → IsCounted cut fail (steps_in t.legs.items) (update_count layout aim image work upto first)
    alone upto t halts steps = record {
      few = let few = begun.few in omega (arith, steps, few);
      all = λ a b.
          let ahead = session_unbroken (subst (IsAhead cut) steps a) (subst (IsAhead fail) steps b)
          in
          let same = same_end old ran.dev.steps whole ran.leg.end is.ran_is.end
          (unbroken_whole old ran.dev.steps whole ran.leg.end ahead is.ran_is.end) in
          let none : behind (wants_boot upto && is_done whole) upto ≡ 0 =
          ap (λ goes. behind goes upto) (ap (λ e. wants_boot upto && is_done e) same ∙ halts) in
          let all = begun.all ahead in omega (arith, steps, all, none);
    }

    module _ (done : ran.leg.end ≡ Done) where
      session_all : ran.leg.steps ≡ sessions
      session_all =
          let ahead = led.ahead done in begun.all (session_unbroken ahead.0 ahead.1.0)

      mid : Chooses cut fail ran.leg.steps (restarted ran.dev)
      mid = again cut fail ran.leg.steps whole ran.dev ran.leg.end led done

      leaves : ran.dev.inner.bytes ≡ written_flash layout aim image work first
      leaves = session_leaves shown layout aim image old opens others apart work theirs driver below
          (HasTaken (driver_steps layout aim image)) (HasTaken work) AnyMap ran is done
          (λ share taken. taken.0) (λ share taken. taken.0)

      announced : IsAnnounced layout first aim image 0 ran.dev.inner.bytes
      announced = session_announces shown layout aim image old opens others apart work theirs driver
          below (HasTaken (driver_steps layout aim image)) (HasTaken work) AnyMap ran is done
          (λ share taken. taken.0) (λ share taken. taken.0)

      -- the boot rewrites the one entry that waits
      two_steps : length (boot_steps layout ran.dev.inner.bytes) ≡ 2
      two_steps = ap (λ (l : List Step). length l) (ap (rewrites layout.otadata)
          (announced_writes layout first aim image opens ran.dev.inner.bytes announced))

      boots_are : boots ≡ length (boot_steps layout ran.dev.inner.bytes)
      boots_are = ap (λ (f : List ℕ). length (boot_steps layout f)) (sym leaves)

      module _ (dev : CutDevice Ram) (leg : Leg)
          (boot : IsBootLeg layout (restarted ran.dev) dev leg) where
        booted : CountsTo (restarted ran.dev) dev leg
            (length (boot_steps layout ran.dev.inner.bytes))
        booted = boot_counts layout (restarted ran.dev) dev leg boot
            (let number = mid.steps_are in
            let all = session_all in
            let two = two_steps in omega (arith, number, all, two, short, few))

        next : Leads cut fail (ran.leg.steps + leg.steps) Done dev leg.end
        next = leads cut fail ran.leg.steps (restarted ran.dev) dev Done leg one mid boot.ran

        boot_unbroken : IsAhead cut (ran.leg.steps + leg.steps)
            → IsAhead fail (ran.leg.steps + leg.steps) → IsUnbroken (restarted ran.dev) dev.steps
        boot_unbroken a b =
            leg_unbroken cut fail ran.leg.steps (restarted ran.dev) dev Done leg mid boot.ran a b

        behind_boot : (upto : Upto) (t : Trial) (goes : Bool)
            → (wants_confirm upto && is_done leg.end) ≡ goes
            → BehindBoot confirms layout first aim image goes (ran.leg ∷ leg ∷ []) dev t
            → IsCounted cut fail (steps_in t.legs.items)
            (sessions + (boots + confirm_count upto work))
        behind_boot upto t false halts ends =
            let steps : steps_in t.legs.items ≡ ran.leg.steps + leg.steps =
            ap steps_in ends.legs_are ∙ omega arith in
            let all = session_all in
            let same = boots_are in
            record {
              few = let few = booted.few in omega (arith, steps, all, same, few);
              all = λ a b.
                  let ahead = boot_unbroken (subst (IsAhead cut) steps a)
                  (subst (IsAhead fail) steps b) in
                  let end : Done ≡ leg.end = same_end (restarted ran.dev) dev.steps Done leg.end
                  boot.ran.end
                  (unbroken_whole (restarted ran.dev) dev.steps Done leg.end ahead boot.ran.end) in
                  let none = confirm_none upto work (is_done leg.end) (sym (ap is_done end)) halts
                  in
                  let here = booted.all ahead in omega (arith, steps, all, same, none, here);
            }
        behind_boot upto t true goes ends =
            let c = ends.ran.leg in
            let end = done_is leg.end (second_true (wants_confirm upto) (is_done leg.end) goes) in
            let past = next.ahead end in
            let here = booted.all (boot_unbroken past.0 past.1.0) in
            let last = confirm_counts layout others work driver below dev ends.ran ends.write.now
            ends.confirmed
            (let number = next.chooses.steps_are in
            let all = session_all in
            let two = two_steps in omega (arith, number, all, two, here, short, few)) in
            let steps : steps_in t.legs.items ≡ ran.leg.steps + leg.steps + c.steps =
            ap steps_in ends.ends.legs_are ∙ omega arith in
            let all = session_all in
            let same = boots_are in
            let more = confirm_some upto work (is_done leg.end) goes in
            record {
              few = let few = last.few in omega (arith, steps, all, same, more, here, few);
              all = λ a b.
                  let rest = last.all (leg_unbroken cut fail (ran.leg.steps + leg.steps) dev
                  ends.ran.dev Done c next.chooses ends.confirmed.ran_is
                  (subst (IsAhead cut) steps a) (subst (IsAhead fail) steps b)) in
                  omega (arith, steps, all, same, more, here, rest);
            }

    behind_session : (upto : Upto) (t : Trial) (goes : Bool)
        → (wants_boot upto && is_done ran.leg.end) ≡ goes
        → BehindSession confirms layout first aim image goes upto ran.leg ran.dev t
        → IsCounted cut fail (steps_in t.legs.items) (update_count layout aim image work upto first)
    behind_session upto t false halts ends =
        alone upto t halts (ap steps_in ends.legs_are ∙ omega arith)
    behind_session upto t true goes ends =
        let done = done_is ran.leg.end (second_true (wants_boot upto) (is_done ran.leg.end) goes) in
        let same : whole ≡ ran.leg.end = (led.ahead done).1.1 ∙ sym done in
        let all : update_count layout aim image work upto first
        ≡ sessions + (boots + confirm_count upto work) =
        ap (λ b. sessions + behind b upto)
        (ap (λ e. wants_boot upto && is_done e) same ∙ goes) in
        subst (IsCounted cut fail (steps_in t.legs.items)) (sym all)
        (behind_boot done ends.new ends.leg ends.booted upto t
        (wants_confirm upto && is_done ends.leg.end) refl ends.behind)

  -- an update begins so many steps
  pub trial_counts : (upto : Upto) (t : Trial)
      → IsTrial (TakenSession layout others aim image work driver old) confirms layout first aim
      image upto t
      → IsCounted cut fail (steps_in t.legs.items) (update_count layout aim image work upto first)
  trial_counts upto t trial =
      behind_session trial.session trial.written upto t
      (wants_boot upto && is_done trial.session.leg.end) refl trial.behind

-- ---- its end

-- a chosen step is begun exactly where it is one of all of them
pub count_end : (cut fail : Option ℕ) (made count : ℕ) (end : LegEnd) → NotBoth cut fail
    → IsCounted cut fail made count
    → chosen_end cut fail made end ≡ chosen_end cut fail count end
count_end (Some k) fail made count end one is = at (nat_le k made) refl
  where
    at : (b : Bool) → nat_le k made ≡ b
        → (if nat_le k made then Cut k else end) ≡ (if nat_le k count then Cut k else end)
    at true told =
        let less = is.few in
        let there : nat_le k count ≡ true = grind (arith, nat_tests, told, less) in
        rw (told, there) refl
    at false told =
        let ahead : made < k = grind (arith, nat_tests, told) in
        let none : fail ≡ None = elim one [ inl is ↦ absurd cc | inr is ↦ is ] in
        ap (λ n. if nat_le k n then Cut k else end)
        (is.all ahead (subst (λ (f : Option ℕ). IsAhead f made) (sym none) tt))
count_end None (Some k) made count end one is = at (nat_le k made) refl
  where
    at : (b : Bool) → nat_le k made ≡ b → (if nat_le k made then Device k else end)
        ≡ (if nat_le k count then Device k else end)
    at true told =
        let less = is.few in
        let there : nat_le k count ≡ true = grind (arith, nat_tests, told, less) in
        rw (told, there) refl
    at false told =
        let ahead : made < k = grind (arith, nat_tests, told) in
        ap (λ n. if nat_le k n then Device k else end) (is.all tt ahead)
count_end None None made count end one is = refl
