-- The bytes that are read back from the slot are those of the image.
use Rattle.std.proofs.Common.{◌≡◌, inl, inr, ℕ, ◌+◌, ◌-◌, ◌^◌, ◌<◌, ◌≤◌, Bool, List, [], ◌∷◌, ◌++◌, length, take, drop, slice_index, Option, Some, Result, Ok, Err, OnOk, refl, sym, ap, ◌∙◌, subst, arith, append-nil, length-take, length-drop}
use Rattle.std.specs.Prelude.{slice_get}
use Rattle.std.proofs.lemmas.Bool.{cases_lt}
use Rattle.std.proofs.lemmas.List.{ext_get_or, get_or-drop, get_or-take, take_all}
use Rattle.std.proofs.Math.Seq.{take-add}
use Rattle.nor_device.specs.declared.step.Step.{Step}
use Rattle.nor_device.specs.declared.nor.StepEnd.{StepEnd}
use Rattle.nor_device.specs.declared.nor.NorFault.{NorFault}
use Rattle.duo_machine.specs.declared.events.Kind.{Kind}
use Rattle.image_verify.specs.declared.reader.Reader.{Reader}
use Rattle.image_verify.specs.Fed.{HasRead}
use Rattle.boot_run.specs.Rewriting.{rewrite}
use Rattle.bus_hub.specs.declared.did.Base.{Base}
use Rattle.bus_hub.specs.declared.did.Did.{Did}
use Rattle.bus_hub.specs.Hub.{Hub}
use Rattle.cache_gate.specs.Own.{HasShown, IsInside, Own}
use Rattle.image_verify.specs.Bad.{bad}
use Rattle.update_steps.specs.Driver.{data_steps, next_rewrite, sealed_steps}
use Rattle.flash_ops.specs.declared.refusal.StepNo.{StepNo}
use Rattle.flash_ops.specs.declared.refusal.StepNo.TheVariants as steps
use Rattle.flash_ops.specs.Told.{fault_of}
use Rattle.flash_ops.specs.Moves.{Ask, HasRun, Move, read_moves, steps_of}
use Rattle.flash_ops.specs.Shown.{AreBytesOf}
use Rattle.flash_ops.proofs.Pieces.{read_next, read_nothing, steps_of_read}
use Rattle.flash_ops.specs.Periods.{BreaksOffWithin, HasFewInPeriod, HasPeriod, HasPeriods, read_periods, period_shown, periods_shown}
use Rattle.flash_ops.proofs.PeriodLemmas.{Passed, passed_all, passed_none, passed_one, passed_stops, read_periods_next, read_periods_none}
use Rattle.flash_ops.proofs.Runs.{Left, base_same, left_all, left_none, left_stops, left_then}
use Rattle.ota_session.specs.Course.{Course, Install}
use Rattle.ota_session.specs.declared.target.Target.{Target}
use Rattle.ota_session.specs.Stages.{IsWritten, image_of}
use Rattle.ota_session.specs.SessionTold.{cause_of, found_as}
use Rattle.ota_session.proofs.MoveLemmas.{data_front}
use Rattle.ota_session.proofs.ReadLemmas.{StandsBy, slot_byte}
use Rattle.ota_session.proofs.StageLemmas.{IsSlot, drives_as, drives_inside, drives_more, image_is, ran_err, ran_ok, slot}

module _ {S : Type 0} (target : Target) (o : Own (Base S Course) Did) (w : IsWritten target o) where
  abbrev done : List Step
  done = data_steps w.row.offset w.image

  lies : IsSlot (length w.drives.base.flash) w.row w.image w.aim
  lies = slot w.layout w.aim w.image w.row w.row_is done o w.drives

  at_is : target.at ≡ w.row.offset
  at_is = ap (λ (t : Target). t.at) w.target_is

  -- the image has as many bytes as the target says
  pub long : target.length ≡ length (image_of o.base)
  long = ap (λ (t : Target). t.length) w.target_is ∙ sym lies.long
      ∙ ap (λ (l : List ℕ). length l)
      (sym (image_is w.layout w.aim w.image w.row w.row_is done o w.drives))

  same : image_of o.base ≡ w.image
  same = image_is w.layout w.aim w.image w.row w.row_is done o w.drives

  -- bytes of it lie in the flash
  ends : (n : ℕ) → n ≤ target.length → target.at + n ≤ length w.drives.base.flash
  ends n within =
      let place = at_is in
      let size = long in
      let size' : length (image_of o.base) ≡ length w.image = ap (λ (l : List ℕ). length l) same in
      let fits = lies.fits in
      let inside = lies.inside in
      omega arith

  pub inside_slot : (n m : ℕ) → n + m ≤ target.length → IsInside o.base (target.at + n + m)
  inside_slot n m within =
      let end = ends (n + m) within in
      drives_inside w.layout (Install w.aim w.image) done (target.at + n + m) o w.drives
      (omega arith)

  pub small_slot : (n m : ℕ) → n + m ≤ target.length → target.at + n + m < 2 ^ 32
  small_slot n m within =
      let end = ends (n + m) within in
      let small = lies.small in
      omega arith

  -- a read leaves it as it is
  pub still_written : (ms : List Move) (r : Result (Unit {0}) StepNo) (u : Unit {0})
      (p : Own (Base S Course) Did) → steps_of ms ≡ [] → r ≡ Ok u → HasRun 0 ms (fault_of r) o p
      → IsWritten target p
  still_written ms r u p none fine run = record {
    layout = w.layout;
    aim = w.aim;
    image = w.image;
    row = w.row;
    row_is = w.row_is;
    target_is = w.target_is;
    marked = w.marked;
    drives = drives_as w.layout (Install w.aim w.image) (done ++ steps_of ms) done p
        (drives_more w.layout (Install w.aim w.image) done 0 ms o p w.drives
        (ran_ok 0 ms r u o p fine run))
        (ap (λ (l : List Step). done ++ l) none ∙ append-nil done);
  }

module _ {D S : Type 0}
    (bytes : D → Option (List ℕ)) (off : D → Bool) (steps faults : D → ℕ) (setting : D → S)
    (may_end : S → ℕ → StepEnd → Type 0) (may_tear : S → ℕ → List ℕ → Step → List ℕ → Type 0)
    (may_refuse : S → ℕ → NorFault → Type 0) (must_refuse : S → ℕ → Type 0) where
  abbrev pub Stood : Hub D Course → Base S Course → List Did → List Did → Type 0
  Stood = StandsBy bytes off steps faults setting may_end may_tear may_refuse must_refuse

  module _ (target : Target) (o : Own (Base S Course) Did) (w : IsWritten target o) (n : ℕ)
      (out : List ℕ) (within : n + length out ≤ target.length)
      (read : AreBytesOf Stood (λ h. bytes h.dev) o.base o.core o.share (target.at + n) out) where
    abbrev base : Base S Course
    base = w.drives.base

    abbrev rest : List Step
    rest = sealed_steps (bad w.row.size w.image) []
        (rewrite w.layout.otadata (next_rewrite w.aim))

    -- each byte is that of the image
    byte_is : (i : ℕ) → i < length out → slice_index out i ≡ slice_index w.image (n + i)
    byte_is i inside =
        let bytes_of : AreBytesOf Stood (λ h. bytes h.dev) (Some base) o.core o.share (target.at + n) out =
        subst (λ (b : Option (Base S Course)). AreBytesOf Stood (λ h. bytes h.dev) b o.core o.share
        (target.at + n) out) w.drives.base_is read in
        let here = bytes_of i inside in
        let duty = w.drives.duty in
        let place : target.at + n + i ≡ w.row.offset + (n + i) =
        let at = at_is target o w in omega arith in
        let size : target.length ≡ length w.image =
        long target o w ∙ ap (λ (l : List ℕ). length l) (same target o w) in
        here.is
        ∙ ap (λ (m : ℕ). slice_index here.flash m) place
        ∙ slot_byte bytes off steps faults setting may_end may_tear may_refuse must_refuse here.bus
        base o.core o.share here.theirs w.aim w.image w.row rest here.flash w.drives.two here.stands_by
        (sym (ap (λ (c : Course). c.driver) duty)) (ap (λ (c : Course). c.made) duty)
        (ap (λ (c : Course). c.purpose) duty)
        (ap (λ (c : Course). slice_get c.layout.slots w.aim.slot) duty ∙ w.row_is)
        (ap (λ (c : Course). c.rest) duty
        ∙ data_front w.layout w.aim w.row w.image w.row_is w.marked)
        w.drives.made_is here.told (n + i) (omega (arith, size, inside, within))

    -- so they are the next ones of it
    pub read_image : out ≡ take (length out) (drop n (image_of o.base))
    read_image =
        let size : target.length ≡ length w.image =
        long target o w ∙ ap (λ (l : List ℕ). length l) (same target o w) in
        let tail = length-drop n w.image in
        let cut = length-take (length out) (drop n w.image) in
        let full : length out ≡ length (take (length out) (drop n w.image)) = omega arith in
        ext_get_or 0 out (take (length out) (drop n w.image)) full (λ i inside.
        byte_is i inside
        ∙ sym (get_or-take (length out) (drop n w.image) i 0 inside ∙ get_or-drop n w.image i 0))
        ∙ ap (λ (l : List ℕ). take (length out) (drop n l)) (sym (same target o w))

  -- the same by the answer of the read
  pub fed_image : (target : Target) (o : Own (Base S Course) Did) (n count : ℕ) (out : List ℕ)
      (r : Result (Unit {0}) StepNo) (u : Unit {0}) → IsWritten target o → length out ≡ count
      → n + count ≤ target.length → r ≡ Ok u
      → OnOk r (AreBytesOf Stood (λ h. bytes h.dev) o.base o.core o.share (target.at + n) out)
      → out ≡ take count (drop n (image_of o.base))
  fed_image target o n count out r u w size within fine read =
      read_image target o w n out (omega arith)
      (subst (λ (x : Result (Unit {0}) StepNo).
      OnOk x (AreBytesOf Stood (λ h. bytes h.dev) o.base o.core o.share (target.at + n) out)) fine
      read)
      ∙ ap (λ (m : ℕ). take m (drop n (image_of o.base))) size

-- ---- period by period

-- the first period of a read, and those behind it
split_read : (len piece : ℕ) → 1 ≤ len → piece ≤ len → piece ≤ 4096 → (len ≤ 4096 → piece ≡ len)
    → (4096 ≤ len → piece ≡ 4096) → read_moves len ≡ read_moves piece ++ read_moves (len - piece)
split_read len piece some within most short long =
    let full : 1 ≤ piece =
    elim (cases_lt 4096 len) [
      | inl more ↦ let p : piece ≡ 4096 = long (omega arith) in omega arith
      | inr few ↦ let p : piece ≡ len = short few in omega arith
    ] in
    let gone : piece - piece ≡ 0 = omega arith in
    let one : read_moves piece ≡ Ask ∷ [] =
    read_next piece piece full (omega arith) (λ few. refl) (λ many. omega arith)
    ∙ ap (λ (n : ℕ). Ask ∷ read_moves n) gone ∙ ap (λ (m : List Move). Ask ∷ m) read_nothing in
    read_next len piece some within short long
    ∙ ap (λ (m : List Move). m ++ read_moves (len - piece)) (sym one)

fault_as : (why : StepNo) → fault_of (Err why) ≡ Err (cause_of why)
fault_as steps.Device = refl
fault_as steps.Cut = refl

-- a read of at most 4096 bytes shows as one quiet period
pub one_read : {B : Type 0} (count : ℕ) (r : Result (Unit {0}) StepNo) (o p : Own B Did)
    → 1 ≤ count → count ≤ 4096 → HasPeriods (read_periods count) r o p → HasPeriod 0 r o p
one_read {B} count r o p some most h =
    by r (subst (λ (l : List ℕ). HasPeriods l r o p) one h)
  where
    gone : count - count ≡ 0
    gone = omega arith

    one : read_periods count ≡ 0 ∷ []
    one = read_periods_next count count some (omega arith) (λ few. refl) (λ many. omega arith)
        ∙ ap (λ (n : ℕ). 0 ∷ read_periods n) gone ∙ ap (λ (l : List ℕ). 0 ∷ l) read_periods_none

    alone : (n : ℕ) → HasShown (periods_shown (n ∷ [])) o p → HasShown (period_shown n) o p
    alone n shows = subst (λ (l : List Kind). HasShown l o p) (append-nil (period_shown n)) shows

    stopped : (made : List ℕ) → BreaksOffWithin (0 ∷ []) made → HasShown (periods_shown made) o p
        → HasFewInPeriod 0 o p
    stopped [] broke shows = absurd broke
    stopped (m ∷ made) (inl broke) shows = record {
      many = m;
      within = broke.0;
      shows = alone m (subst (λ (l : List ℕ). HasShown (periods_shown (m ∷ l)) o p) broke.1 shows);
    }
    stopped (m ∷ made) (inr broke) shows = absurd broke.1

    by : (r : Result (Unit {0}) StepNo) → HasPeriods (0 ∷ []) r o p → HasPeriod 0 r o p
    by (Ok u) h = alone 0 (subst (λ (l : List ℕ). HasShown (periods_shown l) o p) h.by_answer h.shows)
    by (Err why) h = stopped h.made h.by_answer h.shows

-- so many bytes were read back and handed to the verifier
pub record HasFed {S : Type 0} (target : Target) (n : ℕ) (reader : Reader)
    (o c : Own (Base S Course) Did) : Type 0 where
  pub within : n ≤ target.length
  pub left : Left 0 (read_moves target.length) (read_moves (target.length - n)) o c
  pub passed : Passed (read_periods target.length) (read_periods (target.length - n)) o c
  pub base : c.base ≡ o.base
  pub written : IsWritten target c
  pub read : HasRead reader target.size (take n (image_of o.base))

pub fed_none : {S : Type 0} (target : Target) (reader : Reader) (o : Own (Base S Course) Did)
    → IsWritten target o → HasRead reader target.size [] → HasFed target 0 reader o o
fed_none target reader o written fresh =
    let all : target.length ≡ target.length - 0 = omega arith in
    record {
      within = omega arith;
      left = left_all 0 (read_moves target.length) (read_moves (target.length - 0)) o
          (ap read_moves all);
      passed = passed_none (read_periods target.length) (read_periods (target.length - 0)) o
          (ap read_periods (sym all));
      base = refl;
      written = written;
      read = fresh;
    }

module _ {S : Type 0} (target : Target) (n : ℕ) (reader : Reader) (o c : Own (Base S Course) Did)
    (fed : HasFed target n reader o c) where
  module _ (count : ℕ) (p : Own (Base S Course) Did) (r : Result (Unit {0}) StepNo)
      (more : n < target.length) (within : count ≤ target.length - n) (most : count ≤ 4096)
      (short : target.length - n ≤ 4096 → count ≡ target.length - n)
      (long : 4096 ≤ target.length - n → count ≡ 4096)
      (run : HasRun 0 (read_moves count) (fault_of r) c p) (period : HasPeriod 0 r c p) where
    next : read_periods (target.length - n)
        ≡ 0 ∷ read_periods (target.length - n - count)
    next = read_periods_next (target.length - n) count (omega arith) within short long

    split : read_moves (target.length - n)
        ≡ read_moves count ++ read_moves (target.length - n - count)
    split = split_read (target.length - n) count (omega arith) within most short long

    -- one period more
    pub fed_more : (reader' : Reader) (u : Unit {0}) → r ≡ Ok u
        → HasRead reader' target.size
        (take n (image_of o.base) ++ take count (drop n (image_of c.base)))
        → HasFed target (n + count) reader' o p
    fed_more reader' u fine read =
        let later : target.length - n - count ≡ target.length - (n + count) = omega arith in
        let ran = ran_ok 0 (read_moves count) r u c p fine run in
        record {
          within = let w = fed.within in omega arith;
          left = left_then 0 (read_moves target.length) (read_moves (target.length - n))
              (read_moves count) (read_moves (target.length - (n + count))) o c p
              (split ∙ ap (λ (m : ℕ). read_moves count ++ read_moves m) later) fed.left ran;
          passed = passed_one (read_periods target.length) (read_periods (target.length - n))
              (read_periods (target.length - (n + count))) 0 o c p
              (next ∙ ap (λ (m : ℕ). 0 ∷ read_periods m) later) fed.passed
              (subst (λ (x : Result (Unit {0}) StepNo). HasPeriod 0 x c p) fine period);
          base = base_same 0 (read_moves count) (Ok tt) c p ran ∙ fed.base;
          written = still_written target c fed.written (read_moves count) r u p
              (steps_of_read count) fine run;
          read = subst (λ (l : List ℕ). HasRead reader' target.size l)
              (ap (λ (b : Option (Base S Course)). take n (image_of o.base)
              ++ take count (drop n (image_of b))) fed.base
              ∙ sym (take-add n count (image_of o.base))) read;
        }

    -- the device refused
    pub fed_stops : (why : StepNo) → r ≡ Err why
        → HasRun 0 (read_moves target.length) (Err (cause_of why)) o p
    fed_stops why is =
        left_stops 0 (read_moves target.length) (read_moves (target.length - n)) (read_moves count)
        (read_moves (target.length - n - count)) (cause_of why) o c p split fed.left
        (ran_err 0 (read_moves count) r why c p is run)

    pub fed_breaks : (why : StepNo) → r ≡ Err why
        → HasPeriods (read_periods target.length) (found_as (Err why)) o p
    fed_breaks why is =
        let broke = passed_stops (read_periods target.length) (read_periods (target.length - n))
        (read_periods (target.length - n - count)) 0 (Err why) (cause_of why) o c p
        (fault_as why) next fed.passed
        (subst (λ (x : Result (Unit {0}) StepNo). HasPeriod 0 x c p) is period) in
        record { made = broke.made; by_answer = broke.by_answer; shows = broke.shows }

  -- all bytes were read back
  pub fed_periods : target.length ≤ n → HasPeriods {E = NorFault} (read_periods target.length) (Ok tt) o c
  fed_periods all =
      let none : target.length - n ≡ 0 = omega arith in
      passed_all (read_periods target.length) (read_periods (target.length - n)) o c
      (ap read_periods none ∙ read_periods_none) fed.passed

  pub fed_ran : target.length ≤ n → HasRun 0 (read_moves target.length) (Ok tt) o c
  fed_ran all =
      let none : target.length - n ≡ 0 = omega arith in
      left_none 0 (read_moves target.length) (read_moves (target.length - n)) o c
      (ap read_moves none ∙ read_nothing) fed.left

  pub fed_all : target.length ≤ n → HasRead reader target.size (image_of o.base)
  fed_all all =
      let size : target.length ≡ length (image_of c.base) = long target c fed.written in
      let there : length (image_of c.base) ≡ length (image_of o.base) =
      ap (λ (b : Option (Base S Course)). length (image_of b)) fed.base in
      subst (λ (l : List ℕ). HasRead reader target.size l)
      (take_all n (image_of o.base) (omega arith)) fed.read
