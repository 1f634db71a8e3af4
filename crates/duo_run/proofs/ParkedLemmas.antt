-- The run of the parking machine that both cores leave, in the words of their shares.
use Rattle.std.proofs.Common.{◌≡◌, ◌==◌, ◌<◌, ◌++◌, ◌∙◌, ℕ, zero, suc, Bool, true, false, List, [], ◌∷◌, Option, Some, None, refl, sym, ap, subst, arith, append_assoc, append-nil}
use Rattle.std.specs.Prelude.{if◌then◌else◌}
use Rattle.core_state.specs.declared.registers.Record.{Record}
use Rattle.core_state.specs.declared.registers.Regs.{Regs}
use Rattle.core_state.specs.Registers.{reset}
use Rattle.duo_machine.specs.declared.events.Event.{Event}
use Rattle.duo_machine.specs.declared.events.Kind.{Kind}
use Rattle.duo_machine.specs.declared.events.Kind.TheVariants as kinds
use Rattle.duo_machine.specs.declared.machine.Gate.{Gate}
use Rattle.duo_machine.specs.declared.machine.Machine.{Machine}
use Rattle.duo_machine.specs.declared.machine.Phase.{Phase}
use Rattle.duo_machine.specs.Machine.{first_machine, own_of}
use Rattle.duo_machine.specs.Runs.{IsSafeRun, Passes, after_all, last_set, set_by}
use Rattle.duo_machine.specs.Table.{HasNoneSaved, after, changed}
use Rattle.duo_machine.proofs.StepKeeps.{by_two, of_two}
use Rattle.park_words.specs.declared.view.Act.{Act}
use Rattle.park_words.specs.declared.view.Act.TheVariants.{Gave, Made, Took}
use Rattle.park_words.specs.declared.view.Entry.{Entry}
use Rattle.park_words.specs.Story.{CanBeMade, done_by, entry, event_of as event_before, events_of, machine_at, turn_at}
use Rattle.park_words.proofs.Stories.{own_both, stories_are_safe}
use Rattle.bus_hub.specs.declared.did.Did.{Did}
use Rattle.bus_hub.specs.declared.did.Did.TheVariants.{Broken, Closed, Denied, Fetched, Mapping, Masked, Unfetched, Missed, Noted, Opened, Unmapping}
use Rattle.bus_hub.specs.declared.entry.Act.TheVariants as acts
use Rattle.cache_gate.specs.Own.{Own, RanBoth}
use Rattle.cache_gate.specs.Works.{act_before, before, event_of, events_in, work_of, works_of}
use Rattle.cache_gate.proofs.Walks.{works_of-append}
use Rattle.power_cut.specs.Leg.{share_of}
use Rattle.duo_run.specs.Parked.{HasOwnRegisters, IsParkedRun, IsRunOf, KeepsBoth}
use Rattle.duo_run.specs.Worker.{regs_by}

-- ---- the registers that work leaves

-- the registers behind this work
abbrev regs_behind : Regs → List Kind → Regs
regs_behind regs [] = regs
regs_behind regs (kind ∷ later) = regs_behind (set_by kind regs) later

-- what is no work sets nothing
work_sets : (kind : Kind) (later : List Kind) (regs : Regs)
    → regs_behind (set_by kind regs) later ≡ regs_behind regs (before (work_of kind) later)
work_sets kinds.Start later regs = refl
work_sets kinds.Rest later regs = refl
work_sets kinds.Take later regs = refl
work_sets kinds.Give later regs = refl
work_sets kinds.Save later regs = refl
work_sets kinds.Back later regs = refl
work_sets kinds.Hold later regs = refl
work_sets kinds.Ask later regs = refl
work_sets kinds.Park later regs = refl
work_sets kinds.See later regs = refl
work_sets kinds.Begin later regs = refl
work_sets kinds.Done later regs = refl
work_sets kinds.End later regs = refl
work_sets kinds.Leave later regs = refl
work_sets (kinds.Set shown) later regs = refl
work_sets (kinds.Fetch space) later regs = refl

-- a core's last Set in a run is that of its work
last_by_work : (c : ℕ) (run : List Entry) (regs : Regs)
    → last_set c (events_of run) regs ≡ regs_behind regs (works_of (done_by c run))
last_by_work c [] regs = refl
last_by_work c (e ∷ run) regs =
    by_act e.act (e.core == c) refl (λ r. last_by_work c run r)
    ∙ ap (regs_behind regs) (sym (by_core (e.core == c)))
  where
    by_core : (own : Bool) → works_of (if own then e ∷ done_by c run else done_by c run)
        ≡ (if own then act_before e.act (works_of (done_by c run)) else works_of (done_by c run))
    by_core true = refl
    by_core false = refl

    by_act : (act : Act) (own : Bool) → (e.core == c) ≡ own
        → ((r : Regs)
        → last_set c (events_of run) r ≡ regs_behind r (works_of (done_by c run)))
        → last_set c (event_before e.core act (events_of run)) regs
        ≡ regs_behind regs
        (if own then act_before act (works_of (done_by c run)) else works_of (done_by c run))
    by_act (Made kind) true is rest =
        ap (λ (b : Bool). last_set c (events_of run) (if b then set_by kind regs else regs)) is
        ∙ (rest (set_by kind regs) ∙ work_sets kind (works_of (done_by c run)) regs)
    by_act (Made kind) false is rest =
        ap (λ (b : Bool). last_set c (events_of run) (if b then set_by kind regs else regs)) is
        ∙ rest regs
    by_act Took true is rest = rest regs
    by_act Took false is rest = rest regs
    by_act Gave true is rest = rest regs
    by_act Gave false is rest = rest regs

-- and so is that of a share
share_by_work : (share : List Did) (regs : Regs)
    → regs_by regs share ≡ regs_behind regs (events_in share)
share_by_work [] regs = refl
share_by_work (Opened k shown step ∷ share) regs = share_by_work share regs
share_by_work (Closed k shown ∷ share) regs = share_by_work share regs
share_by_work (Broken k shown why left ∷ share) regs = share_by_work share regs
share_by_work (Fetched k shown at bytes ∷ share) regs = share_by_work share regs
share_by_work (Noted k shown (acts.Open erase at len) ∷ share) regs = share_by_work share regs
share_by_work (Noted k shown (acts.Close end') ∷ share) regs = share_by_work share regs
share_by_work (Noted k shown (acts.Fetch at start len) ∷ share) regs = share_by_work share regs
share_by_work (Noted k shown acts.Set ∷ share) regs = share_by_work share shown
share_by_work (Noted k shown (acts.Mapped at) ∷ share) regs = share_by_work share regs
share_by_work (Noted k shown (acts.Unmapped at) ∷ share) regs = share_by_work share regs
share_by_work (Noted k shown acts.Wrote ∷ share) regs = share_by_work share regs
share_by_work (Noted k shown (acts.Refused why) ∷ share) regs = share_by_work share regs
share_by_work (Denied why ∷ share) regs = share_by_work share regs
share_by_work (Mapping page n space answer ∷ share) regs = share_by_work share regs
share_by_work (Unmapping at answer ∷ share) regs = share_by_work share regs
share_by_work (Missed at len ∷ share) regs = share_by_work share regs
share_by_work (Masked at len ∷ share) regs = share_by_work share regs
share_by_work (Unfetched at len why ∷ share) regs = share_by_work share regs

-- ---- a first part of a run, and of a share

-- a share is cut behind this work
record IsCut (work : List Kind) (share : List Did) : Type 0 where
  did : List Did
  later : List Did
  splits : share ≡ did ++ later
  work_is : events_in did ≡ work

cut_share : (front rest : List Kind) (share : List Did) → events_in share ≡ front ++ rest
    → IsCut front share
cut_share [] rest share is = record { did = []; later = share; splits = refl; work_is = refl }
cut_share (kind ∷ front) rest [] is = absurd (cc)
cut_share (kind ∷ front) rest (item ∷ share) is =
    by_event (event_of item) refl is (λ e. cut_share (kind ∷ front) rest share e)
    (λ e. cut_share front rest share e)
  where
    by_event : (o : Option Kind) → event_of item ≡ o
        → before o (events_in share) ≡ kind ∷ (front ++ rest)
        → (events_in share ≡ kind ∷ (front ++ rest) → IsCut (kind ∷ front) share)
        → (events_in share ≡ front ++ rest → IsCut front share)
        → IsCut (kind ∷ front) (item ∷ share)
    by_event None none is skip take =
        let x = skip is in record {
          did = item ∷ x.did;
          later = x.later;
          splits = ap (λ (s : List Did). item ∷ s) x.splits;
          work_is = ap (λ (o : Option Kind). before o (events_in x.did)) none ∙ x.work_is;
        }
    by_event (Some first) some is skip take =
        let head : first ≡ kind = cc in
        let tail : events_in share ≡ front ++ rest = cc in
        let x = take tail in record {
          did = item ∷ x.did;
          later = x.later;
          splits = ap (λ (s : List Did). item ∷ s) x.splits;
          work_is = ap (λ (o : Option Kind). before o (events_in x.did)) some
              ∙ (λ i. head i ∷ x.work_is i);
        }

-- the events of two parts of a run
event_both : (c : ℕ) (act : Act) (a b : List Event)
    → event_before c act (a ++ b) ≡ event_before c act a ++ b
event_both c (Made kind) a b = refl
event_both c Took a b = refl
event_both c Gave a b = refl

events_both : (a b : List Entry) → events_of (a ++ b) ≡ events_of a ++ events_of b
events_both [] b = refl
events_both (e ∷ a) b =
    ap (event_before e.core e.act) (events_both a b)
    ∙ event_both e.core e.act (events_of a) (events_of b)

-- the work of two parts
works_both : (c : ℕ) (a b : List Entry)
    → works_of (done_by c (a ++ b)) ≡ works_of (done_by c a) ++ works_of (done_by c b)
works_both c a b =
    ap works_of (own_both c a b (done_by c a) (done_by c b) refl refl)
    ∙ works_of-append (done_by c a) (done_by c b)

-- the machine behind one more event
after_both : (m : Machine) (events : List Event) (e : Event)
    → after_all m (events ++ e ∷ []) ≡ after (after_all m events) e
after_both m [] e = refl
after_both m (x ∷ events) e = after_both (after m x) events e

-- a run passes the machine behind each first part of it
passes : (run front later : List Entry) → run ≡ front ++ later
    → Passes first_machine (events_of run) (machine_at front)
passes run front later split = record {
  front = events_of front;
  rest = events_of later;
  split = ap events_of split ∙ events_both front later;
  reached = refl;
}

-- ---- the registers of a core

own_at_first : (c : ℕ) → c < 2 → own_of first_machine c ≡ reset
own_at_first zero small = refl
own_at_first (suc zero) small = refl
own_at_first (suc (suc c)) small = absurd (omega arith)

-- where nothing of a core is saved, its own registers are in force
in_force : (c : ℕ) (share : List Did) (run front later : List Entry) → c < 2
    → run ≡ front ++ later → IsSafeRun first_machine (events_of run)
    → works_of (done_by c run) ≡ events_in share → HasNoneSaved (machine_at front) c
    → HasOwnRegisters c share front
unfolding passes
in_force c share run front later small split safe work none =
    let x = cut_share (works_of (done_by c front)) (works_of (done_by c later)) share
    (sym work ∙ (ap (λ (es : List Entry). works_of (done_by c es)) split
    ∙ works_both c front later)) in
    record {
      did = x.did;
      later = x.later;
      splits = x.splits;
      work = sym x.work_is;
      regs = safe.own_in_force (machine_at front) (passes run front later split) c small none
          ∙ (ap (last_set c (events_of front)) (own_at_first c small)
          ∙ (last_by_work c front reset
          ∙ (ap (regs_behind reset) (sym x.work_is) ∙ sym (share_by_work x.did reset))));
    }

-- nothing is saved once a core has put its registers back
back_in_two : (c : ℕ) → c < 2 → (lock : ℕ) (gate gate' : Gate) (phase phase' : Phase)
    (registers registers' : Record) (running : Option ℕ)
    → HasNoneSaved
    (changed (of_two lock gate gate' phase phase' registers registers' running) c kinds.Back) c
back_in_two zero small lock gate gate' phase phase' registers registers' running = refl
back_in_two (suc zero) small lock gate gate' phase phase' registers registers' running = refl
back_in_two (suc (suc c)) small lock gate gate' phase phase' registers registers' running =
    absurd (omega arith)

none_behind_back : (c : ℕ) (run front later : List Entry) → c < 2
    → run ≡ front ++ entry c (Made kinds.Back) ∷ later
    → IsSafeRun first_machine (events_of run)
    → HasNoneSaved (machine_at (front ++ entry c (Made kinds.Back) ∷ [])) c
none_behind_back c run front later small split safe =
    let there = safe.safe (machine_at front)
    (passes run front (entry c (Made kinds.Back) ∷ later) split) in
    let behind = by_two (λ (m : Machine). HasNoneSaved (changed m c kinds.Back) c)
    (back_in_two c small) (machine_at front) there.two_cores in
    subst (λ (m : Machine). HasNoneSaved m c)
    (sym (ap (after_all first_machine) (events_both front (entry c (Made kinds.Back) ∷ []))
    ∙ after_both first_machine (events_of front) (record { core = c; kind = kinds.Back })))
    behind

-- ---- every run of two shares

-- a run that may be made is safe
made_safe : (run : List Entry) → CanBeMade run → IsSafeRun first_machine (events_of run)
made_safe run made =
    stories_are_safe (machine_at run) (turn_at run) 0 1 run run (record {
      run = run;
      leads = record { made = made; there = refl; turn_there = refl };
      saw = record { later = []; splits = sym (append-nil run); none_own = refl };
      saw' = record { later = []; splits = sym (append-nil run); none_own = refl };
    })

keeps_both : (left right : List Did) (run : List Entry) → IsRunOf left right run
    → KeepsBoth left right run
keeps_both left right run is =
    let safe = made_safe run is.made in
    record {
      safe = safe;
      resumes = λ c small r.
          in_force c (share_of c left right) run (r.before ++ entry c (Made kinds.Back) ∷ []) r.later
          small (r.split ∙ sym (append_assoc r.before (entry c (Made kinds.Back) ∷ []) r.later)) safe
          (is.works c small) (none_behind_back c run r.before r.later small r.split safe);
      ends = λ c small.
          safe.keeps_own c small
          ∙ (ap (last_set c (events_of run)) (own_at_first c small)
          ∙ (last_by_work c run reset
          ∙ (ap (regs_behind reset) (is.works c small)
          ∙ sym (share_by_work (share_of c left right) reset))));
    }

-- ---- the run that both cores leave

module _ {B : Type 0} (a b : Own B Did) (zero_is : a.core ≡ 0) (one_is : b.core ≡ 1)
    (both : RanBoth a b) where
  each_work : (c : ℕ) → c < 2
      → works_of (done_by c both.run) ≡ events_in (share_of c a.share b.share)
  each_work zero small =
      subst (λ (c : ℕ). works_of (done_by c both.run) ≡ events_in a.share) zero_is both.first_work
  each_work (suc zero) small =
      subst (λ (c : ℕ). works_of (done_by c both.run) ≡ events_in b.share) one_is both.second_work
  each_work (suc (suc c)) small = absurd (omega arith)

  pub parked_run : IsParkedRun a.share b.share
  parked_run = record {
    run = both.run;
    is = record { made = both.made; works = each_work };
    each = keeps_both a.share b.share;
  }
