-- What a walk of any number of steps did of a core's own work, and to the lock.
use Rattle.std.proofs.Common.{◌≡◌, ℕ, ◌++◌, ◌∙◌, ap, subst, sym, refl, List, [], ◌∷◌, Option, Some, None, append-nil, append_assoc, Result, Ok, Err}
use Rattle.duo_machine.specs.declared.events.Kind.{Kind}
use Rattle.duo_machine.specs.declared.events.Kind.TheVariants as kinds
use Rattle.park_words.specs.declared.view.Act.{Act}
use Rattle.park_words.specs.declared.view.Act.TheVariants.{Made, Took, Gave}
use Rattle.park_words.specs.declared.view.Entry.{Entry}
use Rattle.park_words.specs.declared.view.View.{View}
use Rattle.park_words.specs.Story.{entry, done_by, handed, Went, Ran}
use Rattle.park_words.proofs.Stories.{own_both, mine_own, ran}
use Rattle.core_state.specs.declared.registers.Regs.{Regs}
use Rattle.nor_device.specs.declared.nor.NorFault.{NorFault}
use Rattle.bus_hub.specs.declared.did.Did.{Did}
use Rattle.bus_hub.specs.declared.did.Did.TheVariants.{Opened, Closed, Broken, Fetched, Noted, Denied, Mapping, Unmapping, Missed, Masked, Unfetched}
use Rattle.bus_hub.specs.declared.entry.Act.{Act as Noting}
use Rattle.bus_hub.specs.declared.entry.Act.TheVariants.{Open, Close, Fetch, Set, Mapped, Unmapped, Wrote, Refused}
use Rattle.bus_hub.specs.Log.{IsNote}
use Rattle.bus_hub.specs.Told.{asked}
use Rattle.bus_hub.specs.declared.reads.FetchNo.{FetchNo}
use Rattle.bus_hub.specs.Fetch.{space_at}
use Rattle.cache_gate.specs.Works.{work_of, period_of, told_of, before, pick_before, picked, Picks, works_of, told_in, Works, Shows, Tells, Worked, event_of, events_in}
use Rattle.cache_gate.specs.Said.{fetch_event}

before-append : (kind : Option Kind) (a b : List Kind) → before kind (a ++ b) ≡ before kind a ++ b
before-append None a b = refl
before-append (Some kind) a b = refl

module _ (pick : Kind → Option Kind) where
  pick_before-append : (act : Act) (a b : List Kind)
      → pick_before pick act (a ++ b) ≡ pick_before pick act a ++ b
  pick_before-append (Made kind) a b = before-append (pick kind) a b
  pick_before-append Took a b = refl
  pick_before-append Gave a b = refl

  -- what is picked of two parts of a run
  pub picked-append : (a b : List Entry) → picked pick (a ++ b) ≡ picked pick a ++ picked pick b
  picked-append [] b = refl
  picked-append (e ∷ a) b = ap (pick_before pick e.act) (picked-append a b)
      ∙ pick_before-append e.act (picked pick a) (picked pick b)

-- the work of two parts of a run
pub works_of-append : (a b : List Entry) → works_of (a ++ b) ≡ works_of a ++ works_of b
works_of-append a b = picked-append work_of a b

-- the events of two parts of a share
pub events_in-append : (a b : List Did) → events_in (a ++ b) ≡ events_in a ++ events_in b
events_in-append [] b = refl
events_in-append (did ∷ a) b = ap (before (event_of did)) (events_in-append a b)
    ∙ before-append (event_of did) (events_in a) (events_in b)

-- a note is no event
pub note_works : (k : ℕ) (regs : Regs) (act : Noting) → IsNote act
    → events_in (Noted k regs act ∷ []) ≡ []
note_works k regs (Open erase at len) note = absurd note
note_works k regs (Close end') note = absurd note
note_works k regs (Fetch at start len) note = absurd note
note_works k regs Set note = absurd note
note_works k regs (Mapped at) note = refl
note_works k regs (Unmapped at) note = refl
note_works k regs Wrote note = refl
note_works k regs (Refused why) note = refl

-- nor is a read
pub asked_works : (r : Result (Unit {0}) NorFault) → events_in (asked r) ≡ []
asked_works (Ok _) = refl
asked_works (Err why) = refl

-- what the entries of a turn that is given back tell
handed_own : (c : ℕ) (kind : Option Kind) → done_by c (handed c kind) ≡ handed c kind
handed_own c None = mine_own c Gave []
handed_own c (Some kind) = mine_own c (Made kind) (entry c Gave ∷ [])
    ∙ ap (λ (es : List Entry). entry c (Made kind) ∷ es) (mine_own c Gave [])

handed_told : (c : ℕ) (kind : Option Kind) → picked told_of (handed c kind) ≡ told_in kind
handed_told c None = refl
handed_told c (Some kind) = refl

-- nothing at all, whatever is picked
pub works_none : {pick : Kind → Option Kind} (c : ℕ) (seen : List Entry) → Picks pick [] c seen c seen
works_none c seen = record { core = refl; later = []; is = sym (append-nil seen); own = refl }

-- one walk after the other
pub works_then : {pick : Kind → Option Kind} (a b : List Kind) (c c' c'' : ℕ) (s s' s'' : List Entry)
    → Picks pick a c s c' s' → Picks pick b c' s' c'' s'' → Picks pick (a ++ b) c s c'' s''
works_then {pick} a b c c' c'' s s' s'' x y =
    let second : picked pick (done_by c y.later) ≡ b =
    subst (λ (n : ℕ). picked pick (done_by n y.later) ≡ b) x.core y.own in
    record {
      core = y.core ∙ x.core;
      later = x.later ++ y.later;
      is = y.is ∙ (ap (λ (es : List Entry). es ++ y.later) x.is ∙ append_assoc s x.later y.later);
      own = ap (picked pick)
          (own_both c x.later y.later (done_by c x.later) (done_by c y.later) refl refl)
          ∙ (picked-append pick (done_by c x.later) (done_by c y.later)
          ∙ (λ k. x.own k ++ second k));
    }

-- the same, where nothing is picked of one of them
pub works_first : {pick : Kind → Option Kind} (a : List Kind) (c c' c'' : ℕ) (s s' s'' : List Entry)
    → Picks pick [] c s c' s' → Picks pick a c' s' c'' s'' → Picks pick a c s c'' s''
works_first a c c' c'' s s' s'' x y = works_then [] a c c' c'' s s' s'' x y

pub works_last : {pick : Kind → Option Kind} (a : List Kind) (c c' c'' : ℕ) (s s' s'' : List Entry)
    → Picks pick a c s c' s' → Picks pick [] c' s' c'' s'' → Picks pick a c s c'' s''
works_last {pick} a c c' c'' s s' s'' x y =
    subst (λ (w : List Kind). Picks pick w c s c'' s'') (append-nil a)
    (works_then a [] c c' c'' s s' s'' x y)

-- ---- what is work, and what is of quiet periods, among what is told

abbrev pub narrowed : (Kind → Option Kind) → List Kind → List Kind
narrowed pick [] = []
narrowed pick (kind ∷ later) = before (pick kind) (narrowed pick later)

-- all that is picked is told
work_within : (kind : Kind) (later : List Kind)
    → narrowed work_of (before (told_of kind) later) ≡ before (work_of kind) (narrowed work_of later)
work_within kinds.Begin later = refl
work_within kinds.Done later = refl
work_within (kinds.Set regs) later = refl
work_within (kinds.Fetch space) later = refl
work_within kinds.Start later = refl
work_within kinds.Rest later = refl
work_within kinds.Take later = refl
work_within kinds.Give later = refl
work_within kinds.Save later = refl
work_within kinds.Back later = refl
work_within kinds.Hold later = refl
work_within kinds.Ask later = refl
work_within kinds.Park later = refl
work_within kinds.See later = refl
work_within kinds.End later = refl
work_within kinds.Leave later = refl

period_within : (kind : Kind) (later : List Kind)
    → narrowed period_of (before (told_of kind) later)
    ≡ before (period_of kind) (narrowed period_of later)
period_within kinds.Begin later = refl
period_within kinds.Done later = refl
period_within (kinds.Set regs) later = refl
period_within (kinds.Fetch space) later = refl
period_within kinds.Start later = refl
period_within kinds.Rest later = refl
period_within kinds.Take later = refl
period_within kinds.Give later = refl
period_within kinds.Save later = refl
period_within kinds.Back later = refl
period_within kinds.Hold later = refl
period_within kinds.Ask later = refl
period_within kinds.Park later = refl
period_within kinds.See later = refl
period_within kinds.End later = refl
period_within kinds.Leave later = refl

module _ (pick : Kind → Option Kind) (within : (kind : Kind) (later : List Kind)
    → narrowed pick (before (told_of kind) later) ≡ before (pick kind) (narrowed pick later)) where
  act_within : (act : Act) (later : List Kind)
      → narrowed pick (pick_before told_of act later) ≡ pick_before pick act (narrowed pick later)
  act_within (Made kind) later = within kind later
  act_within Took later = refl
  act_within Gave later = refl

  picked_within : (run : List Entry) → narrowed pick (picked told_of run) ≡ picked pick run
  picked_within [] = refl
  picked_within (e ∷ run) = act_within e.act (picked told_of run)
      ∙ ap (pick_before pick e.act) (picked_within run)

  told_picks : (events : List Kind) (c c' : ℕ) (s s' : List Entry) → Tells events c s c' s'
      → Picks pick (narrowed pick events) c s c' s'
  told_picks events c c' s s' x = record {
    core = x.core;
    later = x.later;
    is = x.is;
    own = sym (picked_within (done_by c x.later)) ∙ ap (narrowed pick) x.own;
  }

pub told_works : (events : List Kind) (c c' : ℕ) (s s' : List Entry) → Tells events c s c' s'
    → Works (narrowed work_of events) c s c' s'
told_works = told_picks work_of work_within

pub told_shows : (events : List Kind) (c c' : ℕ) (s s' : List Entry) → Tells events c s c' s'
    → Shows (narrowed period_of events) c s c' s'
told_shows = told_picks period_of period_within

-- where nothing is told, or only that the lock was taken or given back, there is no work
pub works_kept : (c c' : ℕ) (s s' : List Entry) → Tells [] c s c' s' → Works [] c s c' s'
works_kept c c' s s' x = told_works [] c c' s s' x

pub works_taken : (c c' : ℕ) (s s' : List Entry) → Tells (kinds.Take ∷ []) c s c' s'
    → Works [] c s c' s'
works_taken c c' s s' x = told_works (kinds.Take ∷ []) c c' s s' x

pub works_given : (c c' : ℕ) (s s' : List Entry) → Tells (kinds.Give ∷ []) c s c' s'
    → Works [] c s c' s'
works_given c c' s s' x = told_works (kinds.Give ∷ []) c c' s s' x

-- a Set is work
pub works_set : (regs : Regs) (c c' : ℕ) (s s' : List Entry) → Tells (kinds.Set regs ∷ []) c s c' s'
    → Works (kinds.Set regs ∷ []) c s c' s'
works_set regs c c' s s' x = told_works (kinds.Set regs ∷ []) c c' s s' x

-- what shows of quiet periods
pub shows_kept : (c c' : ℕ) (s s' : List Entry) → Tells [] c s c' s' → Shows [] c s c' s'
shows_kept c c' s s' x = told_shows [] c c' s s' x

pub shows_taken : (c c' : ℕ) (s s' : List Entry) → Tells (kinds.Take ∷ []) c s c' s'
    → Shows (kinds.Take ∷ []) c s c' s'
shows_taken c c' s s' x = told_shows (kinds.Take ∷ []) c c' s s' x

pub shows_given : (c c' : ℕ) (s s' : List Entry) → Tells (kinds.Give ∷ []) c s c' s'
    → Shows (kinds.Give ∷ []) c s c' s'
shows_given c c' s s' x = told_shows (kinds.Give ∷ []) c c' s s' x

pub shows_set : (regs : Regs) (c c' : ℕ) (s s' : List Entry) → Tells (kinds.Set regs ∷ []) c s c' s'
    → Shows [] c s c' s'
shows_set regs c c' s s' x = told_shows (kinds.Set regs ∷ []) c c' s s' x

-- the events of items are work
work_again : (did : Did) (later : List Kind)
    → narrowed work_of (before (event_of did) later)
    ≡ before (event_of did) (narrowed work_of later)
work_again (Opened k regs step) later = refl
work_again (Closed k regs) later = refl
work_again (Broken k regs why left) later = refl
work_again (Fetched k regs at bytes) later = refl
work_again (Noted k regs (Open erase at len)) later = refl
work_again (Noted k regs (Close end')) later = refl
work_again (Noted k regs (Fetch at start len)) later = refl
work_again (Noted k regs Set) later = refl
work_again (Noted k regs (Mapped at)) later = refl
work_again (Noted k regs (Unmapped at)) later = refl
work_again (Noted k regs Wrote) later = refl
work_again (Noted k regs (Refused why)) later = refl
work_again (Denied why) later = refl
work_again (Mapping flash_page n space answer) later = refl
work_again (Unmapping at answer) later = refl
work_again (Missed at len) later = refl
work_again (Masked at len) later = refl
work_again (Unfetched at len why) later = refl

all_work : (items : List Did) → narrowed work_of (events_in items) ≡ events_in items
all_work [] = refl
all_work (did ∷ items) =
    work_again did (events_in items) ∙ ap (before (event_of did)) (all_work items)

pub works_added : (items : List Did) (c c' : ℕ) (s s' : List Entry)
    → Tells (events_in items) c s c' s' → Works (events_in items) c s c' s'
works_added items c c' s s' x =
    subst (λ (w : List Kind). Works w c s c' s') (all_work items)
    (told_works (events_in items) c c' s s' x)

-- nothing shows of a note, of a read and of a fetch
pub shows_noted : (k : ℕ) (regs : Regs) (act : Noting) (c c' : ℕ) (s s' : List Entry) → IsNote act
    → Tells (events_in (Noted k regs act ∷ [])) c s c' s' → Shows [] c s c' s'
shows_noted k regs act c c' s s' note x =
    shows_kept c c' s s' (subst (λ (w : List Kind). Tells w c s c' s') (note_works k regs act note) x)

pub shows_asked : (r : Result (Unit {0}) NorFault) (c c' : ℕ) (s s' : List Entry)
    → Tells (events_in (asked r)) c s c' s' → Shows [] c s c' s'
shows_asked r c c' s s' x =
    shows_kept c c' s s' (subst (λ (w : List Kind). Tells w c s c' s') (asked_works r) x)

pub shows_fetched : (at : ℕ) (r : Result (Unit {0}) FetchNo) (c c' : ℕ) (s s' : List Entry)
    → Tells (told_in (fetch_event at r)) c s c' s' → Shows [] c s c' s'
shows_fetched at (Ok u) c c' s s' x = told_shows (kinds.Fetch (space_at at) ∷ []) c c' s s' x
shows_fetched at (Err why) c c' s s' x = told_shows [] c c' s s' x

module _ {B D : Type 0} where
  -- a walk of which these entries are the core's own
  works_ran : (own : List Entry) (v w : View B D) → Ran own v w → Worked (picked told_of own) v w
  works_ran own v w r =
      record { core = r.core; later = r.later; is = r.is; own = ap (picked told_of) r.own_is }

  -- of a look nothing is told
  pub looked : (u v w : View B D) → w.core ≡ v.core → Worked [] u v → Went [] v w
      → Worked [] u w
  looked u v w core a h =
      works_first [] u.core v.core w.core u.seen v.seen w.seen a
      (works_ran [] v w (ran [] v w core refl h))

  -- an event of which nothing is told
  passed : (kind : Kind) (u v w : View B D) → told_of kind ≡ None → w.core ≡ v.core
      → Worked [] u v → Went (entry v.core (Made kind) ∷ []) v w → Worked [] u w
  passed kind u v w none core a h =
      works_first [] u.core v.core w.core u.seen v.seen w.seen a
      (subst (λ (o : Option Kind). Worked (before o []) v w) none
      (works_ran (entry v.core (Made kind) ∷ []) v w
      (ran (entry v.core (Made kind) ∷ []) v w core (mine_own v.core (Made kind) []) h)))

  -- the core starts
  pub by_start : (u v w : View B D) → w.core ≡ v.core → Worked [] u v
      → Went (entry v.core (Made kinds.Start) ∷ []) v w → Worked [] u w
  by_start u v w core a h = passed kinds.Start u v w refl core a h

  -- the core rests
  pub by_rest : (u v w : View B D) → w.core ≡ v.core → Worked [] u v
      → Went (entry v.core (Made kinds.Rest) ∷ []) v w → Worked [] u w
  by_rest u v w core a h = passed kinds.Rest u v w refl core a h

  -- an event that is told
  told : (kind : Kind) (u v w : View B D) → w.core ≡ v.core → Worked [] u v
      → Went (entry v.core (Made kind) ∷ []) v w → Worked (before (told_of kind) []) u w
  told kind u v w core a h =
      works_first (before (told_of kind) []) u.core v.core w.core u.seen v.seen w.seen a
      (works_ran (entry v.core (Made kind) ∷ []) v w
      (ran (entry v.core (Made kind) ∷ []) v w core (mine_own v.core (Made kind) []) h))

  -- the core takes the lock
  pub by_take : (u v w : View B D) → w.core ≡ v.core → Worked [] u v
      → Went (entry v.core (Made kinds.Take) ∷ []) v w → Worked (kinds.Take ∷ []) u w
  by_take u v w core a h = told kinds.Take u v w core a h

  -- the core gives it back
  pub by_give : (u v w : View B D) → w.core ≡ v.core → Worked [] u v
      → Went (entry v.core (Made kinds.Give) ∷ []) v w → Worked (kinds.Give ∷ []) u w
  by_give u v w core a h = told kinds.Give u v w core a h

  -- the core holds the other one at rest
  pub by_hold : (u v w : View B D) → w.core ≡ v.core → Worked [] u v
      → Went (entry v.core (Made kinds.Hold) ∷ []) v w → Worked [] u w
  by_hold u v w core a h = passed kinds.Hold u v w refl core a h

  -- the core asks it to park
  pub by_ask : (u v w : View B D) → w.core ≡ v.core → Worked [] u v
      → Went (entry v.core (Made kinds.Ask) ∷ []) v w → Worked [] u w
  by_ask u v w core a h = passed kinds.Ask u v w refl core a h

  -- the core parks
  pub by_park : (u v w : View B D) → w.core ≡ v.core → Worked [] u v
      → Went (entry v.core (Made kinds.Park) ∷ []) v w → Worked [] u w
  by_park u v w core a h = passed kinds.Park u v w refl core a h

  -- the core sees the other one parked
  pub by_see : (u v w : View B D) → w.core ≡ v.core → Worked [] u v
      → Went (entry v.core (Made kinds.See) ∷ []) v w → Worked [] u w
  by_see u v w core a h = passed kinds.See u v w refl core a h

  -- the core lets it go
  pub by_end : (u v w : View B D) → w.core ≡ v.core → Worked [] u v
      → Went (entry v.core (Made kinds.End) ∷ []) v w → Worked [] u w
  by_end u v w core a h = passed kinds.End u v w refl core a h

  -- the core leaves where it was parked
  pub by_leave : (u v w : View B D) → w.core ≡ v.core → Worked [] u v
      → Went (entry v.core (Made kinds.Leave) ∷ []) v w → Worked [] u w
  by_leave u v w core a h = passed kinds.Leave u v w refl core a h

  -- the turn is taken
  pub took : (u v w : View B D) → w.core ≡ v.core → Worked [] u v
      → Went (entry v.core Took ∷ []) v w → Worked [] u w
  took u v w core a h =
      works_first [] u.core v.core w.core u.seen v.seen w.seen a
      (works_ran (entry v.core Took ∷ []) v w
      (ran (entry v.core Took ∷ []) v w core (mine_own v.core Took []) h))

  -- the turn is given back
  pub gave : (kind : Option Kind) (v w : View B D) → w.core ≡ v.core
      → Went (handed v.core kind) v w → Worked (told_in kind) v w
  gave kind v w core h =
      subst (λ (work : List Kind). Worked work v w) (handed_told v.core kind)
      (works_ran (handed v.core kind) v w
      (ran (handed v.core kind) v w core (handed_own v.core kind) h))
