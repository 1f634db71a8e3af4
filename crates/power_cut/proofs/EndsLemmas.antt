-- How a boot ends as a leg: its end names the chosen step exactly where that was begun in it.
use Rattle.std.proofs.Common.{◌≡◌, ◌≢◌, ◌⊎◌, inl, inr, Bool, true, false, ℕ, ◌+◌, ◌^◌, ◌<◌, ◌≤◌, List, [], ◌∷◌, length, Option, Some, None, Result, Ok, Err, refl, sym, ap, ◌∙◌, subst, arith}
use Rattle.std.specs.Prelude.{IfErr, IfOk, OnOk, IsTrue, IsErrOf}
use Rattle.nor_device.specs.declared.step.Step.{Step}
use Rattle.nor_device.specs.declared.nor.StepEnd.{StepEnd}
use Rattle.nor_device.specs.declared.nor.StepEnd.TheVariants as ends
use Rattle.nor_device.specs.declared.nor.NorFault.{NorFault}
use Rattle.nor_device.specs.declared.nor.NorFault.TheVariants.{Failed, Off}
use Rattle.nor_device.specs.Nor.{one_more}
use Rattle.nor_device.specs.Nor as nor
use Rattle.nor_device.specs.Ram.{Ram}
use Rattle.crash_images.specs.declared.cut.CutSetting.{CutSetting}
use Rattle.crash_images.specs.Cut.{CutDevice, EndsBy, IsAhead, IsBad}
use Rattle.crash_images.specs.Crash.{LeftAfter}
use Rattle.crash_images.proofs.CutLaws.{chosen_ends, chosen_refuses}
use Rattle.partition_table.specs.Layout.{Places}
use Rattle.otadata.specs.declared.entry.Entry.{Entry}
use Rattle.boot_select.specs.Boots.{entries_in, images_in}
use Rattle.rollback.specs.Boot.{boot_writes}
use Rattle.rollback.specs.Boots.{boots_in}
use Rattle.image_verify.specs.Held.{held}
use Rattle.boot_run.specs.declared.booted.Booted.{Booted}
use Rattle.boot_run.specs.Booted.{CountsSteps, IsBoot}
use Rattle.boot_run.specs.Made.{AreMadeBy, AreMissed, EachDone, IsRefusedAfter, StopsAt, count_after}
use Rattle.boot_run.specs.Read.{OfEntries}
use Rattle.boot_run.specs.Rewriting.{rewrites}
use Rattle.boot_run.proofs.MadeLemmas.{made_by_left}
use Rattle.power_cut.specs.declared.legs.Leg.{Leg}
use Rattle.power_cut.specs.declared.legs.LegEnd.{LegEnd}
use Rattle.power_cut.specs.declared.legs.LegEnd.TheVariants.{Done, Device, Cut, FirstByte, Empty, Bad}
use Rattle.power_cut.specs.Device.{HasEnd, IsRan, IsReady, IsUnbroken, IsWholeEnd, MayEnd, MayRefuse, MayTear, MustRefuse, RamMayEnd, RamMayRefuse, is_cut, is_off, running_in, setting_of}
use Rattle.power_cut.specs.Refused.{end_asked}
use Rattle.power_cut.specs.Whole.{HasBooted, IsBootLeg, end_by, is_done, started_by}
use Rattle.boot_run.specs.BootSteps.{boot_steps}

-- a step ends by the choice alone
pub by_choice : (set : CutSetting (Unit {0})) (n : ℕ) (end : StepEnd) → MayEnd set n end
    → EndsBy set.cut set.fail n end
by_choice set n end may =
    (chosen_ends RamMayEnd RamMayRefuse (λ s m e is. is) (λ s m why no. no) set n end).0 may

pub refused_by_choice : (set : CutSetting (Unit {0})) (n : ℕ) (why : NorFault) → MayRefuse set n why
    → EndsBy set.cut set.fail n (nor.end_by why)
refused_by_choice set n why may =
    (chosen_refuses RamMayEnd RamMayRefuse (λ s m e is. is) (λ s m w no. no) set n why).0 may

-- a number that is ahead is not this one
not_here : (chosen : Option ℕ) (n : ℕ) → IsAhead chosen n → chosen ≡ Some n → ⊥
not_here None n ahead is = cc is
not_here (Some k) n ahead is = let same : k ≡ n = cc is in absurd (omega arith)

-- it lies behind one that it is ahead of
is_behind : (chosen : Option ℕ) (n now : ℕ) → IsAhead chosen n → chosen ≡ Some now → n < now
is_behind None n now ahead is = absurd cc
is_behind (Some k) n now ahead is = let same : k ≡ now = cc is in omega arith

-- steps that ended whole leave both numbers ahead
each_ahead : (set : CutSetting (Unit {0})) (count : ℕ) (steps : List Step)
    → EachDone MayEnd MayTear MayRefuse MustRefuse set count steps
    → IsAhead set.cut count × IsAhead set.fail count
    → IsAhead set.cut (count_after count steps) × IsAhead set.fail (count_after count steps)
each_ahead set count [] each ahead = ahead
each_ahead set count (step ∷ steps) each ahead =
    each_ahead set (one_more count) steps each.1
    (by_choice set (one_more count) ends.Done each.0.ended)

-- the number of steps does not fall
each_rises : (count : ℕ) (steps : List Step) → count < 2 ^ 64
    → (count ≤ count_after count steps) × (count_after count steps < 2 ^ 64)
each_rises count [] small = (omega arith, small)
each_rises count (step ∷ steps) small =
    let more : (count ≤ one_more count) × (one_more count < 2 ^ 64) = (omega arith, omega arith) in
    let later = each_rises (one_more count) steps more.1 in
    (let a = more.0 in let b = later.0 in omega arith, later.1)

module _ (layout : Places) (old new : CutDevice Ram) where
  abbrev steps : List Step
  steps = boot_steps layout old.inner.bytes

  abbrev MadeBy : Result (Option Booted) NorFault → Type 0
  MadeBy answer = AreMadeBy MayEnd MayTear MayRefuse MustRefuse (setting_of old) steps old.steps
      new.steps (Some old.inner.bytes) (Some new.inner.bytes) answer

  -- the answer is by the entries of the flash
  told : (answer : Result (Option Booted) NorFault)
      → OfEntries layout (Some old.inner.bytes) (λ entries.
      AreMadeBy MayEnd MayTear MayRefuse MustRefuse (setting_of old)
      (rewrites layout.otadata (boot_writes entries)) old.steps new.steps (Some old.inner.bytes)
      (Some new.inner.bytes) answer
      × CountsSteps (rewrites layout.otadata (boot_writes entries)) answer)
      → MadeBy answer
  told answer of =
      subst (λ (es : ℕ → Entry). AreMadeBy MayEnd MayTear MayRefuse MustRefuse (setting_of old)
      (rewrites layout.otadata (boot_writes es)) old.steps new.steps (Some old.inner.bytes)
      (Some new.inner.bytes) answer) of.read of.holds.0

  -- the first steps are whole, and both numbers are ahead
  ahead_by : (made : List Step) → IsReady old
      → EachDone MayEnd MayTear MayRefuse MustRefuse (setting_of old) old.steps made
      → IsUnbroken old (count_after old.steps made)
  ahead_by made ready each =
      let both = each_ahead (setting_of old) old.steps made each
      (ready.ahead.cut_ahead, ready.ahead.fail_ahead) in
      record { cut_ahead = both.0; fail_ahead = both.1 }

  -- the end of a refused call
  broken_end : (why : NorFault) (made : List Step) → IsReady old → old.steps < 2 ^ 64
      → IsUnbroken old (count_after old.steps made)
      → EndsBy old.cut old.fail new.steps (nor.end_by why)
      → HasEnd old new.steps Done (end_by new.steps (Err why))
  broken_end Failed made ready small ahead is = record {
    chosen_is = is;
    later = is_behind old.fail old.steps new.steps ready.ahead.fail_ahead is;
    last = refl;
  }
  broken_end Off made ready small ahead is = record {
    chosen_is = is;
    later = is_behind old.cut old.steps new.steps ready.ahead.cut_ahead is;
    last = refl;
  }

  -- a call that begins no step is not refused
  never_refused : (why : NorFault) (made : List Step)
      → IsUnbroken old (count_after old.steps made)
      → IsRefusedAfter MayEnd MayTear MayRefuse MustRefuse (setting_of old) made old.steps new.steps
      (Some old.inner.bytes) (Some new.inner.bytes) why → ⊥
  never_refused why made ahead refused =
      at why (subst (λ n. EndsBy old.cut old.fail n (nor.end_by why)) refused.counted
      (refused_by_choice (setting_of old) new.steps why refused.allowed))
    where
      at : (why : NorFault)
          → EndsBy old.cut old.fail (count_after old.steps made) (nor.end_by why) → ⊥
      at Failed is = not_here old.fail (count_after old.steps made) ahead.fail_ahead is
      at Off is = not_here old.cut (count_after old.steps made) ahead.cut_ahead is

  missed_end : (why : NorFault) → IsReady old → old.steps < 2 ^ 64
      → AreMissed MayEnd MayTear MayRefuse MustRefuse (setting_of old) steps old.steps new.steps
      (Some old.inner.bytes) (Some new.inner.bytes) why
      → HasEnd old new.steps Done (end_by new.steps (Err why))
  missed_end why ready small missed = at missed.rest missed.stops
    where
      ahead : IsUnbroken old (count_after old.steps missed.made)
      ahead = ahead_by missed.made ready missed.each

      at : (rest : List Step)
          → StopsAt MayEnd MayTear MayRefuse MustRefuse (setting_of old) missed.made rest old.steps
          new.steps (Some old.inner.bytes) (Some new.inner.bytes) why
          → HasEnd old new.steps Done (end_by new.steps (Err why))
      at [] refused = absurd (never_refused why missed.made ahead refused)
      at (step ∷ rest) (inl refused) = absurd (never_refused why missed.made ahead refused)
      at (step ∷ rest) (inr broken) =
          broken_end why missed.made ready small ahead
          (by_choice (setting_of old) new.steps (nor.end_by why) broken.ended)

  -- so the end is exact
  boot_end : (answer : Result (Option Booted) NorFault) → IsReady old → old.steps < 2 ^ 64
      → MadeBy answer → HasEnd old new.steps Done (end_by new.steps answer)
  boot_end (Ok booted) ready small made =
      (subst (IsUnbroken old) (sym made.counted) (ahead_by steps ready made.each), refl)
  boot_end (Err Failed) ready small missed = missed_end Failed ready small missed
  boot_end (Err Off) ready small missed = missed_end Off ready small missed

  -- the power by the answer
  off_by_answer : (answer : Result (Option Booted) NorFault) (off : Bool)
      → (IsErrOf answer Off → IsTrue off) × (IsTrue off → IsErrOf answer Off)
      → off ≡ is_cut (end_by new.steps answer)
  off_by_answer (Ok booted) true is = absurd (let e = is.1 refl in cc)
  off_by_answer (Ok booted) false is = refl
  off_by_answer (Err Failed) true is = absurd (let e = is.1 refl in cc)
  off_by_answer (Err Failed) false is = refl
  off_by_answer (Err Off) true is = refl
  off_by_answer (Err Off) false is = absurd (let e = is.0 refl in cc)

-- ---- the boot by its clauses

-- the number of steps by the answer
made_rises : {T : Type 0} (set : CutSetting (Unit {0})) (steps : List Step) (count now : ℕ)
    (old new : Option (List ℕ)) (answer : Result T NorFault) → count < 2 ^ 64
    → AreMadeBy MayEnd MayTear MayRefuse MustRefuse set steps count now old new answer
    → count ≤ now
made_rises set steps count now old new (Ok x) small made =
    let rises = each_rises count steps small in
    let is = made.counted in
    let a = rises.0 in omega arith
made_rises set steps count now old new (Err why) small missed = at missed.rest missed.stops
  where
    rises : (count ≤ count_after count missed.made) × (count_after count missed.made < 2 ^ 64)
    rises = each_rises count missed.made small

    at : (rest : List Step)
        → StopsAt MayEnd MayTear MayRefuse MustRefuse set missed.made rest count now old new why
        → count ≤ now
    at [] refused = let is = refused.counted in let a = rises.0 in omega arith
    at (step ∷ rest) (inl refused) = let is = refused.counted in let a = rises.0 in omega arith
    at (step ∷ rest) (inr broken) =
        let is = broken.counted in let a = rises.0 in let b = rises.1 in omega arith

module _ (layout : Places) (old new : CutDevice Ram) (answer : Result (Option Booted) NorFault)
  where
    abbrev Answered : Type 0
    Answered = OfEntries layout (Some old.inner.bytes) (λ entries.
        AreMadeBy MayEnd MayTear MayRefuse MustRefuse (setting_of old)
        (rewrites layout.otadata (boot_writes entries)) old.steps new.steps (Some old.inner.bytes)
        (Some new.inner.bytes) answer
        × CountsSteps (rewrites layout.otadata (boot_writes entries)) answer)

    pub boot_rises : old.steps < 2 ^ 64 → Answered → old.steps ≤ new.steps
    boot_rises small of =
        made_rises (setting_of old) (boot_steps layout old.inner.bytes) old.steps new.steps
        (Some old.inner.bytes) (Some new.inner.bytes) answer small (told layout old new answer of)

    pub boot_left : Answered
        → LeftAfter old.inner.bytes (boot_steps layout old.inner.bytes) new.inner.bytes
    boot_left of =
        let left = made_by_left MayEnd MayTear MayRefuse MustRefuse (setting_of old)
        (boot_steps layout old.inner.bytes) old.steps new.steps (Some old.inner.bytes)
        (Some new.inner.bytes) answer (told layout old new answer of) in
        let same : left.0 ≡ new.inner.bytes = let e = left.1 in cc in
        subst (λ (f : List ℕ). LeftAfter old.inner.bytes (boot_steps layout old.inner.bytes) f)
        same left.2

    pub boot_is : IsReady old → old.steps < 2 ^ 64 → (leg : Leg) → running_in new ≡ None
        → length new.inner.bytes ≡ length old.inner.bytes → setting_of new ≡ setting_of old
        → (IsErrOf answer Off → IsTrue (is_off new)) × (IsTrue (is_off new) → IsErrOf answer Off)
        → Answered
        → IfOk answer (IsBoot layout (images_in held layout old.inner.bytes)
        (entries_in layout old.inner.bytes))
        → old.steps + leg.steps ≡ new.steps → leg.end ≡ end_by new.steps answer
        → IsBootLeg layout old new leg
    boot_is ready small leg idle size setting off of booted steps end =
        let made = told layout old new answer of in
        record {
          ran = record {
            idle = idle;
            size = size;
            setting = setting;
            steps = sym steps;
            end = subst (HasEnd old new.steps Done) (sym end)
                (boot_end layout old new answer ready small made);
            power = off_by_answer layout old new answer (is_off new) off ∙ ap is_cut (sym end);
          };
          answer = answer;
          made = made;
          end = end;
          booted = booted;
        }

    -- and what it has started
    pub boot_has : IsReady old → (leg : Leg) (booted : Option Booted)
        → boots_in held layout old.inner.bytes ≢ None
        → running_in new ≡ None → setting_of new ≡ setting_of old
        → (IsErrOf answer Off → IsTrue (is_off new)) × (IsTrue (is_off new) → IsErrOf answer Off)
        → Answered
        → IfOk answer (IsBoot layout (images_in held layout old.inner.bytes)
        (entries_in layout old.inner.bytes))
        → leg.end ≡ end_by new.steps answer → booted ≡ started_by answer
        → HasBooted layout old new leg booted
    boot_has ready leg booted some idle setting off of boots end is =
        subst (HasBooted layout old new leg) (sym is)
        (by answer (told layout old new answer of) boots off end)
      where
        same_cut : new.cut ≡ old.cut
        same_cut = ap (λ (set : CutSetting (Unit {0})). set.cut) setting

        same_fail : new.fail ≡ old.fail
        same_fail = ap (λ (set : CutSetting (Unit {0})). set.fail) setting

        by : (r : Result (Option Booted) NorFault)
            → AreMadeBy MayEnd MayTear MayRefuse MustRefuse (setting_of old)
            (boot_steps layout old.inner.bytes) old.steps new.steps (Some old.inner.bytes)
            (Some new.inner.bytes) r
            → IfOk r (IsBoot layout (images_in held layout old.inner.bytes)
            (entries_in layout old.inner.bytes))
            → (IsErrOf r Off → IsTrue (is_off new)) × (IsTrue (is_off new) → IsErrOf r Off)
            → leg.end ≡ end_by new.steps r → HasBooted layout old new leg (started_by r)
        by (Ok None) made boot off end = absurd (some boot)
        by (Ok (Some it)) made boot off end =
            let ahead = subst (IsUnbroken old) (sym made.counted)
            (ahead_by layout old new (boot_steps layout old.inner.bytes) ready made.each) in (
              record {
                idle = idle;
                on = off_by_answer layout old new (Ok (Some it)) (is_off new) off;
                ahead = record {
                  cut_ahead = subst (λ (chosen : Option ℕ). IsAhead chosen new.steps) (sym same_cut)
                      ahead.cut_ahead;
                  fail_ahead = subst (λ (chosen : Option ℕ). IsAhead chosen new.steps)
                      (sym same_fail) ahead.fail_ahead;
                };
              },
              ap is_done end,
              (let e = made.bytes in cc),
              boot,
            )
        by (Err Failed) made boot off end = ap is_done end
        by (Err Off) made boot off end = ap is_done end

-- ---- a leg by the device that came back

-- a leg in which nothing broke off has the end of a whole leg
whole_end : (old : CutDevice Ram) (now : ℕ) (whole : LegEnd) → IsUnbroken old now
    → IsWholeEnd whole → HasEnd old now whole whole
whole_end old now Done ahead is = (ahead, refl)
whole_end old now (Device k) ahead is = absurd is
whole_end old now (Cut k) ahead is = absurd is
whole_end old now (FirstByte byte) ahead is = (ahead, refl)
whole_end old now Empty ahead is = (ahead, refl)
whole_end old now (Bad why) ahead is = (ahead, refl)

whole_on : (whole : LegEnd) → IsWholeEnd whole → is_cut whole ≡ false
whole_on Done is = refl
whole_on (Device k) is = absurd is
whole_on (Cut k) is = absurd is
whole_on (FirstByte byte) is = refl
whole_on Empty is = refl
whole_on (Bad why) is = refl

module _ (old new : CutDevice Ram) (whole wanted : LegEnd) (asked : Result (Unit {0}) NorFault)
    (ready : IsReady old) (setting : setting_of new ≡ setting_of old)
    (allowed : IfErr asked (MayRefuse (setting_of new) new.steps))
    (stopped : OnOk asked (¬ MustRefuse (setting_of new) new.steps))
    (told : IsUnbroken old new.steps ⊎ IsBad old.cut old.fail new.steps)
    (whole_is : IsWholeEnd wanted) (same : ¬ IsBad old.cut old.fail new.steps → whole
    ≡ wanted) where
  asked_end : HasEnd old new.steps wanted (end_asked new.steps whole asked)
  asked_end = at asked
      (subst (λ (set : CutSetting (Unit {0})). IfErr asked
      (MayRefuse set new.steps)) setting allowed)
      (subst (λ (set : CutSetting (Unit {0})). OnOk asked (¬ MustRefuse set new.steps)) setting
      stopped)
    where
      at : (r : Result (Unit {0}) NorFault) → IfErr r (MayRefuse (setting_of old) new.steps)
          → OnOk r (¬ MustRefuse (setting_of old) new.steps)
          → HasEnd old new.steps wanted (end_asked new.steps whole r)
      at (Ok x) allowed not_bad = elim told [
        | inl ahead ↦ subst (HasEnd old new.steps wanted) (sym (same not_bad))
            (whole_end old new.steps wanted ahead whole_is)
        | inr bad ↦ absurd (not_bad bad)
      ]
      at (Err Failed) may stopped =
          let is : old.fail ≡ Some new.steps =
          refused_by_choice (setting_of old) new.steps Failed may in
          record {
            chosen_is = is;
            later = is_behind old.fail old.steps new.steps ready.ahead.fail_ahead is;
            last = refl;
          }
      at (Err Off) may stopped =
          let is : old.cut ≡ Some new.steps =
          refused_by_choice (setting_of old) new.steps Off may in
          record {
            chosen_is = is;
            later = is_behind old.cut old.steps new.steps ready.ahead.cut_ahead is;
            last = refl;
          }

  asked_power : (IsErrOf asked Off → IsTrue (is_off new)) × (IsTrue (is_off new)
      → IsErrOf asked Off)
      → is_off new ≡ is_cut (end_asked new.steps whole asked)
  asked_power off = at asked (is_off new) off
      (subst (λ (set : CutSetting (Unit {0})). OnOk asked (¬ MustRefuse set new.steps)) setting
      stopped)
    where
      at : (r : Result (Unit {0}) NorFault) (is_off : Bool)
          → (IsErrOf r Off → IsTrue is_off) × (IsTrue is_off → IsErrOf r Off)
          → OnOk r (¬ MustRefuse (setting_of old) new.steps)
          → is_off ≡ is_cut (end_asked new.steps whole r)
      at (Ok x) true off not_bad = absurd (let e = off.1 refl in cc)
      at (Ok x) false off not_bad =
          sym (whole_on wanted whole_is) ∙ ap is_cut (sym (same not_bad))
      at (Err Failed) true off stopped = absurd (let e = off.1 refl in cc)
      at (Err Failed) false off stopped = refl
      at (Err Off) true off stopped = refl
      at (Err Off) false off stopped = absurd (let e = off.0 refl in cc)

  pub behind_ran : (leg : Leg) → running_in new ≡ None
      → length new.inner.bytes ≡ length old.inner.bytes → old.steps + leg.steps ≡ new.steps
      → leg.end ≡ end_asked new.steps whole asked
      → (IsErrOf asked Off → IsTrue (is_off new)) × (IsTrue (is_off new) → IsErrOf asked Off)
      → IsRan old new wanted leg
  behind_ran leg idle size steps end off = record {
    idle = idle;
    size = size;
    setting = setting;
    steps = sym steps;
    end = subst (HasEnd old new.steps wanted) (sym end) asked_end;
    power = asked_power off ∙ ap is_cut (sym end);
  }

-- the same, by what the read says of the device as it was before
pub ran_by : (old dev new : CutDevice Ram) (whole wanted : LegEnd)
    (asked : Result (Unit {0}) NorFault) → IsReady old → setting_of new ≡ setting_of old
    → new.steps ≡ dev.steps → setting_of new ≡ setting_of dev
    → IfErr asked (MayRefuse (setting_of dev) dev.steps)
    → OnOk asked (¬ MustRefuse (setting_of dev) dev.steps)
    → IsUnbroken old new.steps ⊎ IsBad old.cut old.fail new.steps → IsWholeEnd wanted
    → (¬ IsBad old.cut old.fail new.steps → whole ≡ wanted) → (leg : Leg)
    → running_in new ≡ None → length new.inner.bytes ≡ length old.inner.bytes
    → old.steps + leg.steps ≡ new.steps → leg.end ≡ end_asked new.steps whole asked
    → (IsErrOf asked Off → IsTrue (is_off new)) × (IsTrue (is_off new) → IsErrOf asked Off)
    → IsRan old new wanted leg
ran_by old dev new whole wanted asked ready setting number here allowed stopped told whole_is same
    leg idle size steps end off =
    behind_ran old new whole wanted asked ready setting
    (subst (λ n. IfErr asked (MayRefuse (setting_of new) n)) (sym number)
    (subst (λ (set : CutSetting (Unit {0})). IfErr asked (MayRefuse set dev.steps)) (sym here)
    allowed))
    (subst (λ n. OnOk asked (¬ MustRefuse (setting_of new) n)) (sym number)
    (subst (λ (set : CutSetting (Unit {0})). OnOk asked (¬ MustRefuse set dev.steps)) (sym here)
    stopped))
    told whole_is same leg idle size steps end off
