-- What stays of a typed state after a walk or a turn.
use Rattle.std.proofs.Common.{◌≡◌, ℕ, ◌++◌, ◌<◌, ◌∙◌, ap, subst, sym, refl, inl, inr, List, [], ◌∷◌, Option, Some, None, true, false, append-nil, append_assoc, Result, Ok, Err}
use Rattle.std.specs.Prelude.{IsNone, IsSome, unwrap_or}
use Rattle.core_state.specs.declared.registers.Record.{Record}
use Rattle.core_state.specs.declared.registers.Regs.{Regs}
use Rattle.core_state.specs.Registers.{masked, saved_and_masked, restored, own_registers, reset}
use Rattle.atomic_table.specs.Seated.{TableId}
use Rattle.duo_machine.specs.declared.machine.Phase.{Phase}
use Rattle.duo_machine.specs.declared.machine.Phase.TheVariants.{Running, Quiet}
use Rattle.duo_machine.specs.declared.events.Kind.{Kind}
use Rattle.duo_machine.specs.declared.events.Kind.TheVariants as kinds
use Rattle.nor_device.specs.declared.step.Step.{Step}
use Rattle.nor_device.specs.declared.nor.Ready.TheVariants as answers
use Rattle.nor_device.specs.declared.nor.NorFault.{NorFault}
use Rattle.park_words.specs.declared.view.Entry.{Entry}
use Rattle.duo_machine.specs.Machine.{other}
use Rattle.duo_machine.specs.Runs.{last_set}
use Rattle.park_words.specs.Views.{Seated}
use Rattle.park_words.specs.Story.{done_by, Saw, RanToRest, events_of}
use Rattle.park_words.proofs.Stories.{own_both}
use Rattle.bus_hub.specs.declared.did.Did.{Did}
use Rattle.bus_hub.specs.declared.did.Did.TheVariants.{Opened, Closed, Broken, Fetched, Noted, Missed, Masked}
use Rattle.bus_hub.specs.declared.entry.Act.{Act as Noting}
use Rattle.bus_hub.specs.declared.reads.FetchNo.{FetchNo}
use Rattle.bus_hub.specs.declared.reads.FetchNo.TheVariants as refusals
use Rattle.bus_hub.specs.Shares.{Begun, open_after, open_from}
use Rattle.bus_hub.specs.Fetch.{space_at}
use Rattle.cache_gate.specs.Works.{Works, Tells, works_of, events_in, told_in}
use Rattle.cache_gate.specs.Own.{Held, RanBoth, own_of, held_of, behind, kept, to_phase, later_on, did, IsTrueTo, IsRunning, IsMaskedIn, Adds, HasFetched, HasStepped, HasShownStep}
use Rattle.cache_gate.specs.Said.{HasRead, HasPolled, HasFinished, HasMade, Added, fetch_event, ended, number_of_open}
use Rattle.cache_gate.proofs.Walks.{works_of-append, events_in-append, works_then, told_works, told_shows, works_kept, works_added, shows_kept}

-- a core that did this, and added its items, is still true to its share
true_after : (c c' : ℕ) (seen seen' : List Entry) (share share' items : List Did)
    → share' ≡ share ++ items → works_of (done_by c seen) ≡ events_in share
    → Works (events_in items) c seen c' seen' → works_of (done_by c' seen') ≡ events_in share'
true_after c c' seen seen' share share' items more before w =
    ap (λ (n : ℕ). works_of (done_by n seen')) w.core
    ∙ (ap (λ (es : List Entry). works_of (done_by c es)) w.is
    ∙ (ap works_of (own_both c seen w.later (done_by c seen) (done_by c w.later) refl refl)
    ∙ (works_of-append (done_by c seen) (done_by c w.later)
    ∙ ((λ i. before i ++ w.own i)
    ∙ (sym (events_in-append share items) ∙ ap events_in (sym more))))))

-- where nothing is saved, the registers in force are the core's own
own_regs : (r : Record) → IsNone r.saved → r.regs ≡ own_registers r
own_regs r unsaved = by r.saved unsaved
  where
    by : (saved : Option Regs) → IsNone saved → r.regs ≡ unwrap_or saved r.regs
    by None none = refl
    by (Some regs) none = absurd cc

module _ {B : Type 0} where
  true_kept : (h h' : Held B Did) → h'.share ≡ h.share → IsTrueTo h
      → Works [] h.core h.seen h'.core h'.seen → IsTrueTo h'
  true_kept h h' same before w =
      true_after h.core h'.core h.seen h'.seen h.share h'.share []
      (same ∙ sym (append-nil h.share)) before w

  -- a running core that only saw more
  pub runs_on : (words : TableId) (h h' : Held B Did) → IsRunning words h
      → h' ≡ later_on h h'.seen → Works [] h.core h.seen h'.core h'.seen → IsRunning words h'
  runs_on words h h' i e w = record {
    table = ap (λ (z : Held B Did). z.table) e ∙ i.table;
    small = subst (λ (n : ℕ). n < 2) (sym (ap (λ (z : Held B Did). z.core) e)) i.small;
    phase = ap (λ (z : Held B Did). z.phase) e ∙ i.phase;
    unsaved = subst (λ (r : Record). IsNone r.saved)
        (sym (ap (λ (z : Held B Did). z.registers) e)) i.unsaved;
    turn = ap (λ (z : Held B Did). z.turn) e ∙ i.turn;
    stepping = ap (λ (z : Held B Did). z.stepping) e ∙ i.stepping;
    true_to = true_kept h h' (ap (λ (z : Held B Did). z.share) e) i.true_to w;
  }

  -- one that did something
  pub runs_more : (words : TableId) (h h' : Held B Did) (r : Record) (items : List Did)
      → IsRunning words h → h' ≡ behind h r false items h'.seen → IsNone r.saved
      → Works (events_in items) h.core h.seen h'.core h'.seen → IsRunning words h'
  runs_more words h h' r items i e unsaved w = record {
    table = ap (λ (z : Held B Did). z.table) e ∙ i.table;
    small = subst (λ (n : ℕ). n < 2) (sym (ap (λ (z : Held B Did). z.core) e)) i.small;
    phase = ap (λ (z : Held B Did). z.phase) e ∙ i.phase;
    unsaved = subst (λ (q : Record). IsNone q.saved)
        (sym (ap (λ (z : Held B Did). z.registers) e)) unsaved;
    turn = ap (λ (z : Held B Did). z.turn) e;
    stepping = ap (λ (z : Held B Did). z.stepping) e;
    true_to = true_after h.core h'.core h.seen h'.seen h.share h'.share items
        (ap (λ (z : Held B Did). z.share) e) i.true_to w;
  }

  -- one that fetched, or was refused
  pub runs_read : (words : TableId) (h h' : Held B Did) (k at len : ℕ)
      (r : Result (Unit {0}) FetchNo) → IsRunning words h → HasRead k at len r h h'
      → Tells (told_in (fetch_event at r)) h.core h.seen h'.core h'.seen → IsRunning words h'
  runs_read words h h' k at len (Ok u) i f w =
      runs_more words h h' h.registers (Fetched k h.registers.regs at f.bytes ∷ []) i f.is
      i.unsaved (told_works (kinds.Fetch (space_at at) ∷ []) h.core h'.core h.seen h'.seen w)
  runs_read words h h' k at len (Err refusals.Unmapped) i f w =
      runs_more words h h' h.registers (Missed at len ∷ []) i f i.unsaved
      (works_kept h.core h'.core h.seen h'.seen w)
  runs_read words h h' k at len (Err refusals.Masked) i f w =
      runs_more words h h' h.registers (Masked at len ∷ []) i f i.unsaved
      (works_kept h.core h'.core h.seen h'.seen w)
  runs_read words h h' k at len (Err refusals.Off) i f w =
      runs_more words h h' h.registers _ i f i.unsaved
      (works_kept h.core h'.core h.seen h'.seen w)
  runs_read words h h' k at len (Err refusals.Failed) i f w =
      runs_more words h h' h.registers _ i f i.unsaved
      (works_kept h.core h'.core h.seen h'.seen w)

  -- what its caller sees of a fetch
  pub fetched_as : (h h' : Held B Did) (k at len : ℕ) (r : Result (Unit {0}) FetchNo)
      → IsNone h.registers.saved → HasRead k at len r h h'
      → Tells (told_in (fetch_event at r)) h.core h.seen h'.core h'.seen
      → HasFetched k at len r (own_of h) (own_of h')
  fetched_as h h' k at len (Ok u) unsaved f w = record {
    bytes = f.bytes;
    many = f.many;
    adds = record {
      is = ap own_of f.is
          ∙ ap (λ (q : Regs). did (own_of h) (Fetched k q at f.bytes ∷ []) h'.seen)
          (own_regs h.registers unsaved);
      works = told_works (kinds.Fetch (space_at at) ∷ []) h.core h'.core h.seen h'.seen w;
    };
  }
  fetched_as h h' k at len (Err refusals.Unmapped) unsaved f w =
      record { is = ap own_of f; works = works_kept h.core h'.core h.seen h'.seen w }
  fetched_as h h' k at len (Err refusals.Masked) unsaved f w =
      record { is = ap own_of f; works = works_kept h.core h'.core h.seen h'.seen w }
  fetched_as h h' k at len (Err refusals.Off) unsaved f w =
      record { is = ap own_of f; works = works_kept h.core h'.core h.seen h'.seen w }
  fetched_as h h' k at len (Err refusals.Failed) unsaved f w =
      record { is = ap own_of f; works = works_kept h.core h'.core h.seen h'.seen w }

  -- and of a note
  pub noted_as : (h h' : Held B Did) (k : ℕ) (act : Noting) → IsNone h.registers.saved
      → h' ≡ behind h h.registers false (Noted k h.registers.regs act ∷ []) h'.seen
      → Tells (events_in (Noted k h.registers.regs act ∷ [])) h.core h.seen h'.core h'.seen
      → Adds (Noted k (own_of h).regs act ∷ []) (own_of h) (own_of h')
  noted_as h h' k act unsaved e w =
      subst (λ (q : Regs). Adds (Noted k q act ∷ []) (own_of h) (own_of h'))
      (own_regs h.registers unsaved) (record {
        is = ap own_of e;
        works = works_added (Noted k h.registers.regs act ∷ []) h.core h'.core h.seen h'.seen w;
      })

  -- one that masked itself, in another phase
  pub masks : (words : TableId) (h h' : Held B Did) (phase : Phase) → IsRunning words h
      → h' ≡ to_phase (kept h (saved_and_masked h.registers) h'.seen) phase h'.seen
      → Works [] h.core h.seen h'.core h'.seen → IsMaskedIn phase words h'
  masks words h h' phase i e w = record {
    table = ap (λ (z : Held B Did). z.table) e ∙ i.table;
    small = subst (λ (n : ℕ). n < 2) (sym (ap (λ (z : Held B Did). z.core) e)) i.small;
    phase_is = ap (λ (z : Held B Did). z.phase) e;
    saved = subst (λ (r : Record). IsSome r.saved)
        (sym (ap (λ (z : Held B Did). z.registers) e)) refl;
    masked_is = ap (λ (z : Held B Did). z.registers.regs) e;
    turn = ap (λ (z : Held B Did). z.turn) e;
    stepping = ap (λ (z : Held B Did). z.stepping) e;
    true_to = true_kept h h' (ap (λ (z : Held B Did). z.share) e) i.true_to w;
  }

  -- a masked one that runs with its own registers
  pub wakes : (words : TableId) (h h' : Held B Did) (phase : Phase) → IsMaskedIn phase words h
      → h' ≡ to_phase (kept h (restored h.registers) h'.seen) Running h'.seen
      → Works [] h.core h.seen h'.core h'.seen → IsRunning words h'
  wakes words h h' phase i e w = record {
    table = ap (λ (z : Held B Did). z.table) e ∙ i.table;
    small = subst (λ (n : ℕ). n < 2) (sym (ap (λ (z : Held B Did). z.core) e)) i.small;
    phase = ap (λ (z : Held B Did). z.phase) e;
    unsaved = subst (λ (r : Record). IsNone r.saved)
        (sym (ap (λ (z : Held B Did). z.registers) e)) refl;
    turn = ap (λ (z : Held B Did). z.turn) e;
    stepping = ap (λ (z : Held B Did). z.stepping) e;
    true_to = true_kept h h' (ap (λ (z : Held B Did). z.share) e) i.true_to w;
  }

  -- a quiet one that did something
  pub stays_quiet : (words : TableId) (h h' : Held B Did) (items : List Did)
      → IsMaskedIn Quiet words h → Added items h h' → IsMaskedIn Quiet words h'
  stays_quiet words h h' items i a = let e = a.is in record {
    table = ap (λ (z : Held B Did). z.table) e ∙ i.table;
    small = subst (λ (n : ℕ). n < 2) (sym (ap (λ (z : Held B Did). z.core) e)) i.small;
    phase_is = ap (λ (z : Held B Did). z.phase) e ∙ i.phase_is;
    saved = subst (λ (r : Record). IsSome r.saved)
        (sym (ap (λ (z : Held B Did). z.registers) e)) i.saved;
    masked_is = ap (λ (z : Held B Did). z.registers.regs) e ∙ i.masked_is;
    turn = ap (λ (z : Held B Did). z.turn) e;
    stepping = ap (λ (z : Held B Did). z.stepping) e;
    true_to = true_after h.core h'.core h.seen h'.seen h.share h'.share items
        (ap (λ (z : Held B Did). z.share) e) i.true_to
        (works_added items h.core h'.core h.seen h'.seen a.works);
  }

  pub quiet_made : (words : TableId) (h h' : Held B Did) (k : ℕ) (step : Step)
      (r : Result (Unit {0}) NorFault) → IsMaskedIn Quiet words h → HasMade k step r h h'
      → IsMaskedIn Quiet words h'
  quiet_made words h h' k step (Ok u) i m = stays_quiet words h h' _ i m
  quiet_made words h h' k step (Err why) i (inl m) = stays_quiet words h h' _ i m
  quiet_made words h h' k step (Err why) i (inr m) = stays_quiet words h h' _ i m.added

  -- what its caller sees of a step
  adds_as : (h h' : Held B Did) (items : List Did) → Added items h h'
      → Adds items (own_of h) (own_of h')
  adds_as h h' items a = record {
    is = ap own_of a.is;
    works = works_added items h.core h'.core h.seen h'.seen a.works;
  }

  pub quiet_stepped : (h h' : Held B Did) (k : ℕ) (step : Step)
      (r : Result (Unit {0}) NorFault) → h.registers.regs ≡ masked → HasMade k step r h h'
      → HasStepped k step r (own_of h) (own_of h')
  quiet_stepped h h' k step (Ok u) e m =
      subst (λ (q : Regs). Adds (Opened k q step ∷ Closed k q ∷ []) (own_of h) (own_of h')) e
      (adds_as h h' _ m)
  quiet_stepped h h' k step (Err why) e (inl m) = inl (adds_as h h' _ m)
  quiet_stepped h h' k step (Err why) e (inr m) = inr (record {
    left = m.left;
    adds = subst (λ (q : Regs). Adds (Opened k q step ∷ Broken k q why m.left ∷ []) (own_of h)
        (own_of h')) e (adds_as h h' _ m.added);
  })

  -- and what shows of it
  pub quiet_shown : (h h' : Held B Did) (k : ℕ) (step : Step) (r : Result (Unit {0}) NorFault)
      → HasMade k step r h h' → HasShownStep r (own_of h) (own_of h')
  quiet_shown h h' k step (Ok u) m =
      told_shows (kinds.Begin ∷ kinds.Done ∷ []) h.core h'.core h.seen h'.seen m.works
  quiet_shown h h' k step (Err why) (inl m) =
      inl (shows_kept h.core h'.core h.seen h'.seen m.works)
  quiet_shown h h' k step (Err why) (inr m) = inr
      (told_shows (kinds.Begin ∷ kinds.Done ∷ []) h.core h'.core h.seen h'.seen m.added.works)

  -- a poll that found the step running
  pub busy_on : (h0 h h' : Held B Did) (k : ℕ) → h ≡ later_on h0 h.seen → h0.turn ≡ false
      → h0.stepping ≡ true → HasPolled k (Ok answers.Busy) h h' → h' ≡ later_on h0 h'.seen
  busy_on h0 h h' k e turn steps p =
      p.is ∙ (λ i. record {
        table = ap (λ (z : Held B Did). z.table) e i;
        core = ap (λ (z : Held B Did). z.core) e i;
        phase = ap (λ (z : Held B Did). z.phase) e i;
        base = ap (λ (z : Held B Did). z.base) e i;
        registers = ap (λ (z : Held B Did). z.registers) e i;
        share = (append-nil h.share ∙ ap (λ (z : Held B Did). z.share) e) i;
        turn = sym turn i;
        stepping = sym steps i;
        seen = h'.seen;
      })

  -- one that ended
  pub ended_on : (h0 h h' : Held B Did) (k : ℕ) (left : List ℕ) (r : Result (Unit {0}) NorFault)
      → h ≡ later_on h0 h.seen
      → h' ≡ behind h h.registers false (ended k h.registers.regs left r) h'.seen
      → HasFinished k r h0 h'
  ended_on h0 h h' k left r e p = record {
    left = left;
    is = p ∙ ap (λ (z : Held B Did). behind z z.registers false (ended k z.registers.regs left r) h'.seen) e;
  }

open_from-last : (o : Option Begun) (share : List Did) (did : Did)
    → open_from o (share ++ did ∷ []) ≡ open_after (open_from o share) did
open_from-last o [] did = refl
open_from-last o (x ∷ share) did = open_from-last (open_after o x) share did

-- the number of the step that was begun last
pub number_begun : (share share' : List Did) (k : ℕ) (regs : Regs) (step : Step)
    → share' ≡ share ++ Opened k regs step ∷ [] → number_of_open (open_from None share') ≡ k
number_begun share share' k regs step e =
    ap (λ (s : List Did). number_of_open (open_from None s)) e
    ∙ ap number_of_open (open_from-last None share (Opened k regs step))

module _ {B : Type 0} where
  -- a step that was begun, and ended so
  pub made_so : (h m h' : Held B Did) (k : ℕ) (step : Step) (r : Result (Unit {0}) NorFault)
      → m ≡ behind h h.registers true (Opened k h.registers.regs step ∷ []) m.seen
      → Tells (kinds.Begin ∷ []) h.core h.seen m.core m.seen → HasFinished k r m h'
      → Tells (kinds.Done ∷ []) m.core m.seen h'.core h'.seen → HasMade k step r h h'
  made_so h m h' k step r e w f v = by_end r f.left f.is where
    regs : Regs
    regs = h.registers.regs

    joined : (items : List Did) → h' ≡ behind m m.registers false items h'.seen
        → events_in (Opened k regs step ∷ items) ≡ kinds.Begin ∷ kinds.Done ∷ []
        → Added (Opened k regs step ∷ items) h h'
    joined items p both = record {
      is = p ∙ (ap (λ (z : Held B Did). behind z z.registers false items h'.seen) e
          ∙ ap (λ (s : List Did). record h { share = s; turn = false; stepping = false; seen = h'.seen })
          (append_assoc h.share (Opened k regs step ∷ []) items));
      works = subst (λ (l : List Kind). Tells l h.core h.seen h'.core h'.seen) (sym both)
          (works_then (kinds.Begin ∷ []) (kinds.Done ∷ []) h.core m.core h'.core h.seen m.seen
          h'.seen w v);
    }

    same : m.registers.regs ≡ regs
    same = ap (λ (z : Held B Did). z.registers.regs) e

    by_end : (r : Result (Unit {0}) NorFault) (left : List ℕ)
        → h' ≡ behind m m.registers false (ended k m.registers.regs left r) h'.seen
        → HasMade k step r h h'
    by_end (Ok u) left p =
        joined (Closed k regs ∷ [])
        (p ∙ ap (λ (q : Regs). behind m m.registers false (Closed k q ∷ []) h'.seen) same) refl
    by_end (Err why) left p = inr (record {
      left = left;
      added = joined (Broken k regs why left ∷ [])
          (p ∙ ap (λ (q : Regs). behind m m.registers false (Broken k q why left ∷ []) h'.seen) same)
          refl;
    })

-- the work of a run is that of the beginning that its core has seen
saw_work : (run seen : List Entry) (c : ℕ) → Saw run c seen
    → works_of (done_by c run) ≡ works_of (done_by c seen)
saw_work run seen c s =
    ap (λ (es : List Entry). works_of (done_by c es)) s.splits
    ∙ ap works_of (own_both c seen s.later (done_by c seen) [] refl s.none_own
    ∙ append-nil (done_by c seen))

module _ {B : Type 0} where
  -- what both cores leave once they have ended
  pub ran_both : (s t : Seated B Did) → IsTrueTo (held_of s) → IsTrueTo (held_of t)
      → s.view.core ≡ 0 → t.view.core ≡ 1 → RanToRest s.view t.view
      → RanBoth (own_of (held_of s)) (own_of (held_of t))
  ran_both s t first_true second_true zero_is one_is r =
      let beside : other s.view.core ≡ t.view.core = ap other zero_is ∙ sym one_is in
      let second : Saw r.story.run t.view.core t.view.seen =
      subst (λ (n : ℕ). Saw r.story.run n t.view.seen) beside r.story.saw' in
      record {
        run = r.story.run;
        made = r.story.leads.made;
        saw_first = r.story.saw;
        saw_second = second;
        safe = r.safe;
        first_work = saw_work r.story.run s.view.seen s.view.core r.story.saw ∙ first_true;
        second_work = saw_work r.story.run t.view.seen t.view.core second ∙ second_true;
        first_regs = r.own;
        second_regs = subst (λ (n : ℕ). own_registers t.view.registers
            ≡ last_set n (events_of t.view.seen) reset) beside r.other_own;
      }
