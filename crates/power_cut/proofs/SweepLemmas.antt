-- Updates of fresh devices: which end one has that is not cut, and where its flash is as before.
use Rattle.std.proofs.Common.{◌≡◌, ◌⊎◌, inl, inr, Bool, true, false, ℕ, suc, ◌+◌, List, [], ◌∷◌, ◌++◌, length, drop, slice_get, ◌≤◌, Option, Some, None, Result, Ok, Err, refl, sym, ap, ◌∙◌, subst, arith}
use Rattle.std.specs.Prelude.{if◌then◌else◌, IfOk}
use Rattle.std.specs.Borrow.{Bor}
use Rattle.std.proofs.lemmas.Bool.{cases_Bool}
use Rattle.std.proofs.lemmas.Option.{get_or_from_slice_get, slice_get_within}
use Rattle.std.proofs.Math.ListN.{drop_of_length-le}
use Rattle.std.proofs.Math.Seq.{drop-cons}
use Rattle.std.proofs.lemmas.List.{length-append}
use Rattle.nor_device.specs.Ram.{Ram}
use Rattle.crash_images.specs.Agrees.{Agrees}
use Rattle.crash_images.specs.declared.cut.CutSetting.{CutSetting}
use Rattle.crash_images.specs.declared.cut.Health.TheVariants.{Sound}
use Rattle.crash_images.specs.Cut.{CutDevice, IsAhead, cut_device, restarted, unspent_of}
use Rattle.crash_images.proofs.AgreesLaws.{agrees_self, agrees_twice}
use Rattle.partition_table.specs.Layout.{IsPlaced, Places}
use Rattle.rollback.specs.declared.rewrite.Rewrite.{Rewrite}
use Rattle.boot_run.specs.declared.aims.Aim.{Aim}
use Rattle.boot_run.specs.declared.booted.Booted.{Booted}
use Rattle.power_cut.specs.declared.legs.Leg.{Leg}
use Rattle.power_cut.specs.declared.legs.LegEnd.{LegEnd}
use Rattle.power_cut.specs.declared.legs.LegEnd.TheVariants.{Done, Device, Cut, FirstByte, Empty, Bad}
use Rattle.power_cut.specs.declared.legs.Ran.{Ran}
use Rattle.power_cut.specs.declared.legs.Upto.TheVariants.{Confirm}
use Rattle.power_cut.specs.declared.outcome.Trial.{Trial}
use Rattle.power_cut.specs.Device.{HasEnd, IsReady, IsUnbroken, is_off, running_in, setting_of}
use Rattle.power_cut.specs.Update.{Opens, session_end, slot_size}
use Rattle.power_cut.specs.Kept.{KeepsSession}
use Rattle.power_cut.specs.Whole.{AreDone, BehindBoot, BehindSession, EndsBooted, EndsConfirmed, EndsWith, EndsAsChosen, IsTrial, is_done, total_steps}
use Rattle.power_cut.specs.Sweep.{AreCutFrom, IsCutAt, IsFresh, IsRefused, IsUntouched, IsUpdateOf, MaySweep, refusal_in}
use Rattle.power_cut.proofs.BesideLemmas.{boot_beside}
use Rattle.power_cut.proofs.EmptyLemmas.{nothing_keeps}
use Rattle.power_cut.proofs.WholeLemmas.{done_is}

-- what follows of an answer by two of its clauses
pub if_both : {T E : Type 0} {P Q R : T → Type 0} (r : Result T E) → ((x : T) → P x → Q x → R x)
    → IfOk r P → IfOk r Q → IfOk r R
if_both (Ok x) more is also = more x is also
if_both (Err why) more is also = tt

-- a fresh device is ready
pub fresh_ready : (flash : List ℕ) (cut : Option ℕ) (tear : ℕ) (dev : CutDevice Ram)
    → IsFresh flash cut tear dev → IsReady dev
fresh_ready flash cut tear dev fresh = record {
  idle = ap running_in fresh.same ∙ fresh.idle;
  on = ap is_off fresh.same;
  ahead = subst (λ (d : CutDevice Ram). IsUnbroken d d.steps) (sym fresh.same)
      (record { cut_ahead = fresh.ahead; fail_ahead = tt });
}

-- a device that is made over these bytes is fresh
pub fresh_made : (flash : List ℕ) (cut : Option ℕ) (tear : ℕ) (ram : Ram) (dev : CutDevice Ram)
    → dev ≡ cut_device ram cut tear None 0 0 Sound → ram.bytes ≡ flash → ram.polls ≡ 0
    → ram.running ≡ None → ram.steps ≡ 0 → IsAhead cut 0 → IsFresh flash cut tear dev
fresh_made flash cut tear ram dev is bytes polls idle steps ahead =
    subst (IsFresh flash cut tear) (sym is) (record {
      bytes = bytes;
      polls = polls;
      idle = idle;
      none_made = steps;
      ahead = ahead;
      same = refl;
    })

-- a leg on a device without a chosen step does not break off
whole_end : (old : CutDevice Ram) (now : ℕ) (whole end : LegEnd) → old.cut ≡ None
    → old.fail ≡ None → HasEnd old now whole end → end ≡ whole
whole_end old now whole Done cut fail is = sym is.1
whole_end old now whole (Device k) cut fail is = absurd (let e = sym fail ∙ is.chosen_is in cc)
whole_end old now whole (Cut k) cut fail is = absurd (let e = sym cut ∙ is.chosen_is in cc)
whole_end old now whole (FirstByte byte) cut fail is = sym is.1
whole_end old now whole Empty cut fail is = sym is.1
whole_end old now whole (Bad why) cut fail is = sym is.1

-- the end, unless it is one of a whole leg
abbrev unless : LegEnd → Bool → Option LegEnd
unless end done = if done then None else Some end

-- where all legs are made whole, none was refused
done_unrefused : (legs : List Leg) → AreDone legs → refusal_in legs ≡ None
done_unrefused [] done = refl
done_unrefused (leg ∷ legs) done =
    ap (unless leg.end) (ap is_done done.0)

-- a session that was not made whole is told
undone_refused : (leg : Leg) → is_done leg.end ≡ false
    → refusal_in (leg ∷ []) ≡ Some leg.end
undone_refused leg undone =
    ap (unless leg.end) undone

-- the update was made whole, or its session was not and was the only leg
record IsWhole (end : LegEnd) (legs : List Leg) : Type 0 where
  done : AreDone legs
  session : end ≡ Done

record IsSession (end : LegEnd) (legs : List Leg) : Type 0 where
  leg : Leg
  only : legs ≡ leg ∷ []
  end_is : leg.end ≡ end
  not_done : is_done end ≡ false

module _ (begins : CutDevice Ram → Type 0) (writes : CutDevice Ram → Ran → Type 0)
    (confirmable : CutDevice Ram → Bor Booted → Bor Rewrite → Type 0)
    (confirms : CutDevice Ram → Bor Booted → Bor Rewrite → Ran → Type 0) (layout : Places)
    (flash : List ℕ) (tear : ℕ) (aim : Aim) (image : List ℕ) (others : ℕ → Bool)
    (may : MaySweep begins writes confirmable confirms layout flash tear aim image others) where
  abbrev wanted : LegEnd
  wanted = session_end (slot_size layout aim.slot) image

  abbrev Stays : ℕ → Type 0
  Stays = IsUntouched layout aim others

  -- the flash that is left agrees with the one at the begin where no step changes it
  pub beside_kept : (cut : Option ℕ) (t : Trial) → IsPlaced layout (length flash)
      → IsUpdateOf writes confirms layout flash tear aim image cut t
      → Agrees Stays flash t.flash.items
  beside_kept cut t placed u = at (is_done session.leg.end) u.trial.behind
    where
      session : Ran
      session = u.trial.session

      first : Agrees Stays flash session.dev.inner.bytes
      first = subst (λ (f : List ℕ). Agrees Stays f session.dev.inner.bytes) u.fresh.bytes
          (may.written_beside cut u.dev session u.fresh u.trial.written)

      ended : (legs : List Leg) (confirm : _) (dev : CutDevice Ram)
          → EndsWith legs confirm dev t → Agrees Stays flash dev.inner.bytes
          → Agrees Stays flash t.flash.items
      ended legs confirm dev ends agrees =
          subst (λ (f : List ℕ). Agrees Stays flash f) (sym ends.flash_is) agrees

      booted : (b : Bool) (legs : List Leg) (dev : CutDevice Ram)
          → Agrees Stays flash dev.inner.bytes
          → BehindBoot confirms layout flash aim image b legs dev t
          → Agrees Stays flash t.flash.items
      booted false legs dev agrees ends = ended legs None dev ends agrees
      booted true legs dev agrees ends =
          ended (legs ++ ends.ran.leg ∷ []) (Some ends.ran.journal) ends.ran.dev ends.ends
          (agrees_twice Stays flash dev.inner.bytes ends.ran.dev.inner.bytes agrees
          (may.confirmed_beside dev ends.at ends.write ends.ran ends.may ends.confirmed))

      at : (b : Bool)
          → BehindSession confirms layout flash aim image b Confirm session.leg session.dev t
          → Agrees Stays flash t.flash.items
      at false ends = ended (session.leg ∷ []) None session.dev ends first
      at true ends =
          booted (is_done ends.leg.end) (session.leg ∷ ends.leg ∷ []) ends.new
          (agrees_twice Stays flash session.dev.inner.bytes ends.new.inner.bytes first
          (boot_beside layout aim others (length flash) (restarted session.dev) ends.new ends.leg
          placed ends.booted)) ends.behind

  -- an update that is not cut is made whole, or its session is not, by what its bytes show
  uncut : (t : Trial) → IsUpdateOf writes confirms layout flash tear aim image None t
      → IsWhole wanted t.legs.items ⊎ IsSession wanted t.legs.items
  uncut t u = at (cases_Bool (is_done session.leg.end))
    where
      session : Ran
      session = u.trial.session

      keeps : KeepsSession layout aim image u.dev session
      keeps = may.written None u.dev session u.fresh u.trial.written

      cut_none : (dev : CutDevice Ram) → setting_of dev ≡ setting_of u.dev → dev.cut ≡ None
      cut_none dev is = ap (λ (s : CutSetting (Unit {0})). s.cut) is
          ∙ ap (λ (d : CutDevice Ram). d.cut) u.fresh.same

      fail_none : (dev : CutDevice Ram) → setting_of dev ≡ setting_of u.dev → dev.fail ≡ None
      fail_none dev is = ap (λ (s : CutSetting (Unit {0})). s.fail) is
          ∙ ap (λ (d : CutDevice Ram). d.fail) u.fresh.same

      end_is : session.leg.end ≡ wanted
      end_is = whole_end u.dev session.dev.steps wanted session.leg.end (cut_none u.dev refl)
          (fail_none u.dev refl) keeps.ran_is.end

      cut_on : (restarted session.dev).cut ≡ None
      cut_on = ap (λ c. unspent_of c session.dev.steps)
          (cut_none session.dev keeps.ran_is.setting)

      fail_on : (restarted session.dev).fail ≡ None
      fail_on = ap (λ c. unspent_of c session.dev.steps)
          (fail_none session.dev keeps.ran_is.setting)

      confirmed : (leg : Leg) (new : CutDevice Ram) → session.leg.end ≡ Done → leg.end ≡ Done
          → new.cut ≡ None → new.fail ≡ None
          → EndsConfirmed confirms layout flash aim image (session.leg ∷ leg ∷ []) new t
          → AreDone t.legs.items
      confirmed leg new session_done leg_done cut fail ends =
          let kept = may.confirmed new ends.at ends.write ends.ran ends.may ends.confirmed in
          subst AreDone (sym ends.ends.legs_are) (
            session_done,
            (
              leg_done,
              (whole_end new ends.ran.dev.steps Done ends.ran.leg.end cut fail kept.ran_is.end, tt),
            ),
          )

      booted : session.leg.end ≡ Done
          → EndsBooted confirms layout flash aim image Confirm session.leg session.dev t
          → AreDone t.legs.items
      booted session_done ends =
          let leg_done : ends.leg.end ≡ Done =
          whole_end (restarted session.dev) ends.new.steps Done ends.leg.end cut_on fail_on
          ends.booted.ran.end in
          confirmed ends.leg ends.new session_done leg_done
          (ap (λ (s : CutSetting (Unit {0})). s.cut) ends.booted.ran.setting ∙ cut_on)
          (ap (λ (s : CutSetting (Unit {0})). s.fail) ends.booted.ran.setting ∙ fail_on)
          (subst (λ b. BehindBoot confirms layout flash aim image b (session.leg ∷ ends.leg ∷ [])
          ends.new t) (ap is_done leg_done) ends.behind)

      at : (is_done session.leg.end ≡ true) ⊎ (is_done session.leg.end ≡ false)
          → IsWhole wanted t.legs.items ⊎ IsSession wanted t.legs.items
      at (inl p) =
          let done = done_is session.leg.end p in
          inl (record {
            done = booted done (subst (λ b. BehindSession confirms layout flash aim image b Confirm
                session.leg session.dev t) p u.trial.behind);
            session = sym end_is ∙ done;
          })
      at (inr p) =
          let ends : EndsWith (session.leg ∷ []) None session.dev t =
          subst (λ b. BehindSession confirms layout flash aim image b Confirm session.leg
          session.dev t) p u.trial.behind in
          inr (record {
            leg = session.leg;
            only = ends.legs_are;
            end_is = end_is;
            not_done = sym (ap is_done end_is) ∙ p;
          })

  -- where no session was refused, the update was made whole
  pub uncut_done : (t : Trial) → IsUpdateOf writes confirms layout flash tear aim image None t
      → refusal_in t.legs.items ≡ None → AreDone t.legs.items × (wanted ≡ Done)
  uncut_done t u none = at (uncut t u)
    where
      at : IsWhole wanted t.legs.items ⊎ IsSession wanted t.legs.items
          → AreDone t.legs.items × (wanted ≡ Done)
      at (inl is) = (is.done, is.session)
      at (inr is) = absurd (let e : Some is.leg.end ≡ None =
          sym (undone_refused is.leg (ap is_done is.end_is ∙ is.not_done))
          ∙ sym (ap refusal_in is.only) ∙ none in cc)

  -- else it was its session alone
  pub uncut_refused : (t : Trial) (end : LegEnd)
      → IsUpdateOf writes confirms layout flash tear aim image None t
      → refusal_in t.legs.items ≡ Some end
      → IsRefused writes confirms layout flash tear aim image end
  uncut_refused t end u some = at (uncut t u)
    where
      at : IsWhole wanted t.legs.items ⊎ IsSession wanted t.legs.items
          → IsRefused writes confirms layout flash tear aim image end
      at (inl is) = absurd (let e : Some end ≡ None =
          sym some ∙ done_unrefused t.legs.items is.done in cc)
      at (inr is) =
          let e : Some is.leg.end ≡ Some end =
          sym (undone_refused is.leg (ap is_done is.end_is ∙ is.not_done))
          ∙ sym (ap refusal_in is.only) ∙ some in
          let same : is.leg.end ≡ end = cc in
          record {
            t = t;
            update = u;
            leg = is.leg;
            only = is.only;
            end_is = same;
            session = sym is.end_is ∙ same;
            not_done = ap is_done (sym same ∙ is.end_is) ∙ is.not_done;
          }

-- what was counted, and what is left
pub steps_more : (legs : List Leg) (i : ℕ) (leg : Leg) → slice_get legs i ≡ Some leg
    → total_steps (drop i legs) ≡ leg.steps + total_steps (drop (suc i) legs)
steps_more legs i leg is =
    ap total_steps (drop-cons legs i leg (slice_get_within legs i leg is))
    ∙ ap (λ (l : Leg). l.steps + total_steps (drop (suc i) legs))
    (get_or_from_slice_get legs i leg leg is)

pub steps_none : (legs : List Leg) (i : ℕ) → length legs ≤ i → total_steps (drop i legs) ≡ 0
steps_none legs i past = ap total_steps (drop_of_length-le legs past)

-- one place more
pub place_more : (after new : List Booted) (booted : Booted) (made : ℕ) → length after ≡ made
    → new ≡ after ++ booted ∷ [] → length new ≡ made + 1
place_more after new booted made long is =
    ap length is ∙ length-append after (booted ∷ []) ∙ ap (λ (n : ℕ). n + 1) long

-- one cut more
module _ (writes : CutDevice Ram → Ran → Type 0)
    (confirms : CutDevice Ram → Bor Booted → Bor Rewrite → Ran → Type 0) (layout : Places)
    (flash : List ℕ) (tear : ℕ) (aim : Aim) (image : List ℕ) where
  -- a trial of a fresh device is an update of its flash
  pub update_is : (cut : Option ℕ) (dev : CutDevice Ram) (t : Trial) → IsFresh flash cut tear dev
      → IsTrial (writes dev) confirms layout dev.inner.bytes aim image Confirm t
      → EndsAsChosen dev t.legs.items → IsUpdateOf writes confirms layout flash tear aim image cut t
  update_is cut dev t fresh trial end = record {
    dev = dev;
    fresh = fresh;
    trial = subst (λ f. IsTrial (writes dev) confirms layout f aim image Confirm t) fresh.bytes
        trial;
    end = end;
  }

  cuts_more : (k : ℕ) (after : List Booted) (booted : Booted)
      → AreCutFrom writes confirms layout flash tear aim image k after
      → IsCutAt writes confirms layout flash tear aim image (k + length after) booted
      → AreCutFrom writes confirms layout flash tear aim image k (after ++ booted ∷ [])
  cuts_more k [] booted cuts cut =
      let same : k + 0 ≡ k = omega arith in
      (subst (λ n. IsCutAt writes confirms layout flash tear aim image n booted) same cut, tt)
  cuts_more k (head ∷ more) booted cuts cut =
      let same : k + length (head ∷ more) ≡ suc k + length more = omega arith in (
        cuts.0,
        cuts_more (suc k) more booted cuts.1
            (subst (λ n. IsCutAt writes confirms layout flash tear aim image n booted) same cut),
      )

  -- what boots behind the cut in the next step
  pub cut_more : (after new : List Booted) (booted : Booted) (made : ℕ)
      → AreCutFrom writes confirms layout flash tear aim image 1 after → length after ≡ made
      → IsCutAt writes confirms layout flash tear aim image (made + 1) booted
      → new ≡ after ++ booted ∷ []
      → AreCutFrom writes confirms layout flash tear aim image 1 new
  cut_more after new booted made cuts long cut is =
      let next : made + 1 ≡ 1 + length after = omega (arith, long) in
      subst (AreCutFrom writes confirms layout flash tear aim image 1) (sym is)
      (cuts_more 1 after booted cuts
      (subst (λ n. IsCutAt writes confirms layout flash tear aim image n booted) next cut))

-- a session that writes nothing keeps what a sweep asks, where the image has no byte
pub nothing_swept : (layout : Places) (flash : List ℕ) (tear : ℕ) (aim : Aim) (cut : Option ℕ)
    (dev : CutDevice Ram) → IsFresh flash cut tear dev → Opens layout flash aim [] → (ran : Ran)
    → ran.dev ≡ dev → ran.leg ≡ record { steps = 0; end = Empty }
    → KeepsSession layout aim [] dev ran
nothing_swept layout flash tear aim cut dev fresh opens =
    nothing_keeps layout aim dev (fresh_ready flash cut tear dev fresh)
    (subst (λ f. Opens layout f aim []) (sym fresh.bytes) opens)

-- and changes nothing
pub nothing_changed : (Stays : ℕ → Type 0) (dev : CutDevice Ram) (ran : Ran) → ran.dev ≡ dev
    → Agrees Stays dev.inner.bytes ran.dev.inner.bytes
nothing_changed Stays dev ran is =
    subst (λ (d : CutDevice Ram). Agrees Stays dev.inner.bytes d.inner.bytes) (sym is)
    (agrees_self Stays dev.inner.bytes)
