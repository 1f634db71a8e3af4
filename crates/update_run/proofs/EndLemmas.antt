-- How an update ends: in the chosen step, where it was begun; else by its image.
use mathlib.Core.Logic.{inl, inr}
use Rattle.std.proofs.Common.{◌≡◌, ℕ, ◌+◌, ◌<◌, Bool, true, false, [], ◌∷◌, Option, Some, None, refl, sym, ap, ◌∙◌, arith, subst}
use Rattle.std.specs.Prelude.{◌&&◌, nat_le, nat_lt, if◌then◌else◌}
use Rattle.std.proofs.lemmas.Bool.Decides.{nat_tests}
use Rattle.nor_device.specs.Ram.{Ram}
use Rattle.crash_images.specs.Cut.{CutDevice, IsAhead, NotBoth, restarted, unspent_of}
use Rattle.boot_run.specs.declared.aims.Aim.{Aim}
use Rattle.power_cut.specs.declared.legs.Leg.{Leg}
use Rattle.power_cut.specs.declared.legs.LegEnd.{LegEnd}
use Rattle.power_cut.specs.declared.legs.LegEnd.TheVariants.{Done, Device, Cut, FirstByte, Empty, Bad}
use Rattle.power_cut.specs.declared.legs.Ran.{Ran}
use Rattle.power_cut.specs.declared.legs.Upto.{Upto}
use Rattle.power_cut.specs.declared.outcome.Trial.{Trial}
use Rattle.power_cut.specs.Device.{HasEnd, IsRan}
use Rattle.power_cut.specs.Whole.{BehindBoot, BehindSession, is_done, wants_boot, wants_confirm}
use Rattle.update_run.specs.Opening.{Opening}
use Rattle.update_run.specs.Legs.{Confirms}
use Rattle.update_run.specs.Updating.{chosen_end, last_end, steps_in}

-- a number that is still to come is not reached
ahead_end : (k now : ℕ) (broken whole : LegEnd) → now < k
    → (if nat_le k now then broken else whole) ≡ whole
ahead_end k now broken whole ahead =
    let no : nat_le k now ≡ false = grind (arith, nat_tests) in rw no refl

-- a number that was reached
reached_end : (k now : ℕ) (broken whole : LegEnd) → now ≡ k
    → (if nat_le k now then broken else whole) ≡ broken
reached_end k now broken whole reached =
    let yes : nat_le k now ≡ true = grind (arith, nat_tests) in rw yes refl

-- where neither was begun, a whole end
pub unbroken_end : (cut fail : Option ℕ) (now : ℕ) (whole : LegEnd) → IsAhead cut now
    → IsAhead fail now → chosen_end cut fail now whole ≡ whole
unbroken_end (Some k) fail now whole cut_ahead fail_ahead = ahead_end k now (Cut k) whole cut_ahead
unbroken_end None (Some k) now whole cut_ahead fail_ahead =
    ahead_end k now (Device k) whole fail_ahead
unbroken_end None None now whole cut_ahead fail_ahead = refl

-- where the step of the loss of power was begun, it ends there
cut_end : (cut fail : Option ℕ) (now k : ℕ) (whole : LegEnd) → cut ≡ Some k → now ≡ k
    → Cut k ≡ chosen_end cut fail now whole
cut_end cut fail now k whole is last = rw is (sym (reached_end k now (Cut k) whole last))

-- where the step of the failure was begun, it ends there
device_end : (cut fail : Option ℕ) (now k : ℕ) (whole : LegEnd) → NotBoth cut fail
    → fail ≡ Some k → now ≡ k → Device k ≡ chosen_end cut fail now whole
device_end cut fail now k whole (inl none) is last =
    rw (none, is) (sym (reached_end k now (Device k) whole last))
device_end cut fail now k whole (inr none) is last = absurd (cc)

-- the end of a leg
has_end : (old : CutDevice Ram) (now : ℕ) (whole end : LegEnd) → NotBoth old.cut old.fail
    → HasEnd old now whole end → end ≡ chosen_end old.cut old.fail now whole
has_end old now whole Done one has =
    sym (unbroken_end old.cut old.fail now whole has.0.cut_ahead has.0.fail_ahead ∙ has.1)
has_end old now whole Empty one has =
    sym (unbroken_end old.cut old.fail now whole has.0.cut_ahead has.0.fail_ahead ∙ has.1)
has_end old now whole (FirstByte byte) one has =
    sym (unbroken_end old.cut old.fail now whole has.0.cut_ahead has.0.fail_ahead ∙ has.1)
has_end old now whole (Bad why) one has =
    sym (unbroken_end old.cut old.fail now whole has.0.cut_ahead has.0.fail_ahead ∙ has.1)
has_end old now whole (Cut k) one has =
    cut_end old.cut old.fail now k whole has.chosen_is has.last
has_end old now whole (Device k) one has =
    device_end old.cut old.fail now k whole one has.chosen_is has.last

-- a leg that was done began neither step
has_ahead : (old : CutDevice Ram) (now : ℕ) (whole end : LegEnd) → HasEnd old now whole end
    → end ≡ Done → IsAhead old.cut now × (IsAhead old.fail now × (whole ≡ Done))
has_ahead old now whole Done has done = (has.0.cut_ahead, (has.0.fail_ahead, has.1))
has_ahead old now whole Empty has done = absurd (cc)
has_ahead old now whole (FirstByte byte) has done = absurd (cc)
has_ahead old now whole (Bad why) has done = absurd (cc)
has_ahead old now whole (Cut k) has done = absurd (cc)
has_ahead old now whole (Device k) has done = absurd (cc)

-- a number that is still to come is not spent
unspent_same : (chosen : Option ℕ) (n : ℕ) → IsAhead chosen n → unspent_of chosen n ≡ chosen
unspent_same None n ahead = refl
unspent_same (Some k) n ahead =
    let yes : nat_lt n k ≡ true = grind (arith, nat_tests) in rw yes refl

-- the chosen steps of an update, of a device that made so many
pub record Chooses (cut fail : Option ℕ) (n : ℕ) (dev : CutDevice Ram) : Type 0 where
  pub cut_is : dev.cut ≡ cut
  pub fail_is : dev.fail ≡ fail
  pub steps_are : dev.steps ≡ n

-- a leg on such a device: it ends so, and leaves such a device
pub record Leads (cut fail : Option ℕ) (n : ℕ) (whole : LegEnd) (new : CutDevice Ram) (end : LegEnd)
    : Type 0 where
  pub chooses : Chooses cut fail n new
  pub ends : end ≡ chosen_end cut fail n whole
  pub ahead : end ≡ Done → IsAhead cut n × (IsAhead fail n × (whole ≡ Done))

pub leads : (cut fail : Option ℕ) (n : ℕ) (old new : CutDevice Ram) (whole : LegEnd) (leg : Leg)
    → NotBoth cut fail → Chooses cut fail n old → IsRan old new whole leg
    → Leads cut fail (n + leg.steps) whole new leg.end
leads cut fail n old new whole leg one chooses ran =
    let now : new.steps ≡ n + leg.steps = ran.steps ∙ ap (λ m. m + leg.steps) chooses.steps_are in
    let both : NotBoth old.cut old.fail = rw (chooses.cut_is, chooses.fail_is) one in
    let end = has_end old new.steps whole leg.end both ran.end in
    record {
      chooses = record {
        cut_is = ap (λ set. set.cut) ran.setting ∙ chooses.cut_is;
        fail_is = ap (λ set. set.fail) ran.setting ∙ chooses.fail_is;
        steps_are = now;
      };
      ends = rw (chooses.cut_is, chooses.fail_is, now) at end;
      ahead = λ done.
          rw (chooses.cut_is, chooses.fail_is, now) at (has_ahead old new.steps whole leg.end ran.end done);
    }

-- the device with its power on again
pub again : (cut fail : Option ℕ) (n : ℕ) (whole : LegEnd) (dev : CutDevice Ram) (end : LegEnd)
    → Leads cut fail n whole dev end → end ≡ Done → Chooses cut fail n (restarted dev)
again cut fail n whole dev end led done =
    let ahead = led.ahead done in
    record {
      cut_is = rw (led.chooses.cut_is, led.chooses.steps_are) (unspent_same cut n ahead.0);
      fail_is = rw (led.chooses.fail_is, led.chooses.steps_are) (unspent_same fail n ahead.1.0);
      steps_are = led.chooses.steps_are;
    }

pub done_is : (end : LegEnd) → is_done end ≡ true → end ≡ Done
done_is Done is = refl
done_is (Device k) is = absurd (cc)
done_is (Cut k) is = absurd (cc)
done_is (FirstByte byte) is = absurd (cc)
done_is Empty is = absurd (cc)
done_is (Bad why) is = absurd (cc)

pub second_true : (a b : Bool) → (a && b) ≡ true → b ≡ true
second_true true b is = is
second_true false b is = absurd (cc)

-- behind the boot
behind_boot : (o : Opening) (aim : Aim) (driver : ℕ) (cut fail : Option ℕ) (b : Bool) (s l : Leg)
    (dev : CutDevice Ram) (t : Trial) → NotBoth cut fail → (b ≡ true → l.end ≡ Done)
    → Leads cut fail (s.steps + l.steps) Done dev l.end
    → BehindBoot (Confirms o driver) o.layout o.flash aim o.image b (s ∷ l ∷ []) dev t
    → last_end t.legs.items ≡ chosen_end cut fail (steps_in t.legs.items) Done
behind_boot o aim driver cut fail false s l dev t one done led ends =
    let total : s.steps + (l.steps + 0) ≡ s.steps + l.steps = omega arith in
    rw (ends.legs_are, total) led.ends
behind_boot o aim driver cut fail true s l dev t one done led ends =
    let c = ends.ran.leg in
    let more = leads cut fail (s.steps + l.steps) dev ends.ran.dev Done c one led.chooses
    ends.confirmed.leg.ran_is in
    let total : s.steps + (l.steps + (c.steps + 0)) ≡ s.steps + l.steps + c.steps = omega arith in
    rw (ends.ends.legs_are, total) more.ends

-- behind the session
behind_session : (o : Opening) (aim : Aim) (driver : ℕ) (cut fail : Option ℕ) (whole : LegEnd)
    (b : Bool) (upto : Upto) (s : Leg) (dev : CutDevice Ram) (t : Trial) → NotBoth cut fail
    → (b ≡ true → s.end ≡ Done) → Leads cut fail s.steps whole dev s.end
    → BehindSession (Confirms o driver) o.layout o.flash aim o.image b upto s dev t
    → last_end t.legs.items ≡ chosen_end cut fail (steps_in t.legs.items) whole
behind_session o aim driver cut fail whole false upto s dev t one done led ends =
    let total : s.steps + 0 ≡ s.steps = omega arith in
    rw (ends.legs_are, total) led.ends
behind_session o aim driver cut fail whole true upto s dev t one done led ends =
    let sound = done refl in
    let next = leads cut fail s.steps (restarted dev) ends.new Done ends.leg one
    (again cut fail s.steps whole dev s.end led sound) ends.booted.ran in
    rw ((led.ahead sound).1.1)
    (behind_boot o aim driver cut fail _ s ends.leg ends.new t one
    (λ both. done_is ends.leg.end (second_true (wants_confirm upto) (is_done ends.leg.end) both)) next
    ends.behind)

-- an update
pub update_ends : (o : Opening) (aim : Aim) (driver : ℕ) (cut fail : Option ℕ) (whole : LegEnd)
    (upto : Upto) (dev : CutDevice Ram) (session : Ran) (t : Trial) → NotBoth cut fail
    → dev.cut ≡ cut → dev.fail ≡ fail → dev.steps ≡ 0 → IsRan dev session.dev whole session.leg
    → BehindSession (Confirms o driver) o.layout o.flash aim o.image
    (wants_boot upto && is_done session.leg.end) upto session.leg session.dev t
    → last_end t.legs.items ≡ chosen_end cut fail (steps_in t.legs.items) whole
update_ends o aim driver cut fail whole upto dev session t one cut_is fail_is fresh ran behind =
    let first : 0 + session.leg.steps ≡ session.leg.steps = omega arith in
    behind_session o aim driver cut fail whole _ upto session.leg session.dev t one
    (λ both. done_is session.leg.end (second_true (wants_boot upto) (is_done session.leg.end) both))
    (subst (λ n. Leads cut fail n whole session.dev session.leg.end) first
    (leads cut fail 0 dev session.dev whole session.leg one
    (record { cut_is = cut_is; fail_is = fail_is; steps_are = fresh }) ran))
    behind
