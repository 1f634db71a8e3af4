-- From one stage of a session to the next: what a core may do, and what holds once it is done.
use Rattle.std.proofs.Common.{◌≡◌, ◌⊎◌, inl, inr, ℕ, zero, suc, ◌+◌, ◌%◌, ◌^◌, ◌<◌, ◌≤◌, Bool, true, false, List, [], ◌∷◌, ◌++◌, length, take, drop, Option, Some, None, IfSome, IsSome, Result, Ok, Err, refl, sym, ap, ◌∙◌, subst, arith, append_assoc, append-nil}
use Rattle.std.specs.Prelude.{◌==◌, not, if◌then◌else◌, slice_get}
use Rattle.std.proofs.lemmas.Bool.Decides.{nat_tests}
use Rattle.nor_device.specs.declared.step.Step.{Step}
use Rattle.partition_table.specs.declared.app.App.TheVariants.{Ota}
use Rattle.partition_table.specs.declared.row.Row.{Row}
use Rattle.partition_table.specs.Layout.{Places, row_for}
use Rattle.image_verify.specs.Bad.{bad}
use Rattle.boot_run.specs.declared.aims.Aim.{Aim}
use Rattle.boot_run.proofs.FrameLemmas.{stands_inside}
use Rattle.boot_run.specs.Rewriting.{rewrite}
use Rattle.bus_hub.specs.declared.did.Base.{Base}
use Rattle.bus_hub.specs.declared.did.Did.{Did}
use Rattle.cache_gate.specs.Own.{IsInside, Own}
use Rattle.flash_steps.specs.Steps.{write_steps}
use Rattle.flash_steps.proofs.WriteLemmas.{no_steps}
use Rattle.update_steps.specs.Driver.{next_rewrite, sealed_steps, slot_erases, whole_sectors}
use Rattle.update_steps.proofs.DataLemmas.{aligned_row, sectors_fit}
use Rattle.flash_ops.specs.Asked.{CanLook, CanMakeMoves, HasRoomFor, MayMakeAll}
use Rattle.flash_ops.specs.declared.refusal.StepNo.{StepNo}
use Rattle.flash_ops.specs.declared.refusal.StepNo.TheVariants as steps
use Rattle.flash_ops.specs.Told.{fault_of}
use Rattle.flash_ops.specs.Moves.{HasRun, Move, erase_moves, steps_of}
use Rattle.flash_ops.proofs.Runs.{made_more}
use Rattle.flash_ops.proofs.Pieces.{steps_of_write}
use Rattle.ota_session.specs.Course.{Course, Grants, Install, Installs, IsFor, Purpose, part_after, part_of, steps_for}
use Rattle.ota_session.specs.Stages.{Drives, IsNextPiece, IsOpen, IsWriting, Writing, begin_moves, image_for, image_of, in_slot, slot_moves, target_of}
use Rattle.ota_session.specs.SessionTold.{cause_of, HasBegun, HasWritten, piece_moves, wrong_byte}
use Rattle.ota_session.specs.declared.target.Target.{Target}
use Rattle.ota_session.proofs.MoveLemmas.{data_front, erases_front, steps_of_begin, write_front, write_next}
use Rattle.ota_session.proofs.PartLemmas.{driver_may}

-- ---- the answers of a core, as those of the device

module _ {B : Type 0} where
  pub ran_ok : (k : ℕ) (ms : List Move) (r : Result (Unit {0}) StepNo) (u : Unit {0}) (o p : Own B Did)
      → r ≡ Ok u → HasRun k ms (fault_of r) o p → HasRun k ms (Ok tt) o p
  ran_ok k ms r u o p is run =
      subst (λ (x : Result (Unit {0}) StepNo). HasRun k ms (fault_of x) o p) is run

  pub ran_err : (k : ℕ) (ms : List Move) (r : Result (Unit {0}) StepNo) (why : StepNo) (o p : Own B Did)
      → r ≡ Err why → HasRun k ms (fault_of r) o p → HasRun k ms (Err (cause_of why)) o p
  ran_err k ms r why o p is run =
      by why (subst (λ (x : Result (Unit {0}) StepNo). HasRun k ms (fault_of x) o p) is run)
    where
      by : (why : StepNo) → HasRun k ms (fault_of (Err why)) o p
          → HasRun k ms (Err (cause_of why)) o p
      by steps.Device run = run
      by steps.Cut run = run

-- ---- what a core's duty allows

module _ {S : Type 0} (layout : Places) (purpose : Purpose) where
  -- the moves that a core made are behind the steps of its stage
  pub drives_more : (done : List Step) (k : ℕ) (ms : List Move) (o p : Own (Base S Course) Did)
      → Drives layout purpose done o → HasRun k ms (Ok tt) o p
      → Drives layout purpose (done ++ steps_of ms) p
  drives_more done k ms o p d run =
      subst (λ (z : Own (Base S Course) Did). Drives layout purpose (done ++ steps_of ms) z)
      (sym run.adds.is) (record {
        base = d.base;
        base_is = d.base_is;
        small = d.small;
        two = d.two;
        rows = d.rows;
        duty = d.duty;
        made_for = d.made_for;
        made_is = made_more k o.regs ms o.share run.items run.ran
            ∙ ap (λ (l : List Step). l ++ steps_of ms) d.made_is;
      })

  -- the steps of a stage may be spelled otherwise
  pub drives_as : (done steps : List Step) (o : Own (Base S Course) Did)
      → Drives layout purpose done o → done ≡ steps → Drives layout purpose steps o
  drives_as done steps o d same =
      subst (λ (l : List Step). Drives layout purpose l o) same d

  -- a core may make the next steps of its duty
  pub drives_may : (done steps rest : List Step) (o : Own (Base S Course) Did)
      → Drives layout purpose done o → steps_for layout purpose ≡ done ++ (steps ++ rest)
      → MayMakeAll part_of Grants part_after o.base o.core o.share steps
  drives_may done steps rest o d split =
      subst (λ (b : Option (Base S Course)).
      MayMakeAll part_of Grants part_after b o.core o.share steps) (sym d.base_is)
      (driver_may d.base o.core o.share done steps rest
      (sym (ap (λ (c : Course). c.driver) d.duty))
      (ap (λ (c : Course). c.rest) d.duty ∙ split) d.made_is)

  -- so it can make moves of these steps
  pub drives_can : (done : List Step) (ms : List Move) (rest : List Step) (probe : Option ℕ)
      (o : Own (Base S Course) Did) → Drives layout purpose done o
      → steps_for layout purpose ≡ done ++ (steps_of ms ++ rest)
      → HasRoomFor o.base o.core o.share ms → CanLook o.base o.regs probe
      → CanMakeMoves part_of Grants part_after ms probe o
  drives_can done ms rest probe o d split room look = record {
    may = drives_may done (steps_of ms) rest o d split;
    room = room;
    look = look;
  }

  -- what lies in the flash at the opening
  pub drives_inside : (done : List Step) (n : ℕ) (o : Own (Base S Course) Did)
      → (d : Drives layout purpose done o) → n ≤ length d.base.flash → IsInside o.base n
  drives_inside done n o d within =
      subst (λ (b : Option (Base S Course)). IsInside b n) (sym d.base_is) within

-- ---- the slot of a session

-- where the slot lies, and that the image fits it
pub record IsSlot (size : ℕ) (row : Row) (image : List ℕ) (aim : Aim) : Type 0 where
  pub begins : row.offset % 4096 ≡ 0
  pub sectors : row.size % 4096 ≡ 0
  pub inside : row.offset + row.size ≤ size
  pub small : size < 2 ^ 32
  pub fits : length image ≤ row.size
  pub long : length image ≡ aim.length

module _ {S : Type 0} (layout : Places) (aim : Aim) (image : List ℕ) (row : Row)
    (is : slice_get layout.slots aim.slot ≡ Some row) (done : List Step)
    (o : Own (Base S Course) Did) (d : Drives layout (Install aim image) done o) where
  -- the session opens an update
  pub installs : Installs layout d.base.flash aim image
  installs = subst (λ (c : Course). IsFor c.layout d.base.flash c.purpose) d.duty
      d.made_for.purpose

  pub slot : IsSlot (length d.base.flash) row image aim
  slot =
      let opens = installs.opens in
      let stands = opens.placed.stands (Ota aim.slot) row is in
      let sectors = aligned_row (length d.base.flash) row stands in
      let both = sym opens.begins.row_is ∙ is in
      let same : opens.begins.row ≡ row = cc in
      let sizes : opens.begins.row.size ≡ row.size = ap (λ (r : Row). r.size) same in
      record {
        begins = sectors.0;
        sectors = sectors.1;
        inside = stands_inside (length d.base.flash) row stands;
        small = d.small;
        fits = omega (arith, opens.begins.fits, opens.length_is, sizes);
        long = opens.length_is;
      }

  -- the image is the one that the duty is to install
  pub image_is : image_of o.base ≡ image
  image_is = ap (λ (b : Option (Base S Course)). image_of b) d.base_is
      ∙ ap (λ (c : Course). image_for c.purpose) d.duty

-- ---- the begin

-- there is a slot
pub has_slot : {S : Type 0} (layout : Places) (aim : Aim) (o : Own (Base S Course) Did)
    → IsOpen layout aim o → IsSome (row_for layout (Ota aim.slot))
has_slot layout aim o open_here =
    let d = open_here.drives in
    let installs : Installs layout d.base.flash aim open_here.image =
    subst (λ (c : Course). IsFor c.layout d.base.flash c.purpose) d.duty d.made_for.purpose in
    subst (λ (found : Option Row). IsSome found) (sym installs.opens.begins.row_is) refl

-- what an erase of so many bytes of the slot asks
pub record CanBegin {S : Type 0} (probe : Option ℕ) (row : Row) (len : ℕ)
    (o : Own (Base S Course) Did) : Type 0 where
  pub inside : IsInside o.base (row.offset + len)
  pub small : row.offset + len < 2 ^ 32
  pub aligned : (row.offset % 4096 ≡ 0) × (len % 4096 ≡ 0)
  pub can : CanMakeMoves part_of Grants part_after (erase_moves probe row.offset len) probe o

module _ {S : Type 0} (layout : Places) (aim : Aim) (row : Row)
    (is : slice_get layout.slots aim.slot ≡ Some row) (probe : Option ℕ)
    (o : Own (Base S Course) Did) (open_here : IsOpen layout aim o) where
  begins_as : (len : ℕ) → len ≡ whole_sectors aim.length
      → begin_moves layout aim probe ≡ erase_moves probe row.offset len
  unfolding begin_moves
  begins_as len e = ap (λ (found : Option Row). in_slot found
      (λ row. slot_moves probe row.offset aim.length)) is
      ∙ ap (λ (n : ℕ). erase_moves probe row.offset n) (sym e)

  -- the sectors of the slot have fewer bytes than an address has values
  pub few_sectors : whole_sectors aim.length < 2 ^ 32
  few_sectors =
      let d = open_here.drives in
      let lies = slot layout aim open_here.image row is [] o d in
      let short = sectors_fit (length open_here.image) row.size lies.sectors lies.fits in
      let e : whole_sectors (length open_here.image) ≡ whole_sectors aim.length =
      ap whole_sectors lies.long in
      let inside = lies.inside in let small = lies.small in omega (arith, e, short)

  pub can_begin : (len : ℕ) → len ≡ whole_sectors aim.length
      → HasRoomFor o.base o.core o.share (begin_moves layout aim probe)
      → CanLook o.base o.regs probe → CanBegin probe row len o
  can_begin len whole room look =
      let image = open_here.image in
      let d = open_here.drives in
      let lies = slot layout aim image row is [] o d in
      let front = erases_front layout aim row image is in
      let made = steps_of_begin layout aim probe row image is lies.long in
      let short = sectors_fit (length image) row.size lies.sectors lies.fits in
      let ends : row.offset + len ≤ length d.base.flash =
      let e : whole_sectors (length image) ≡ whole_sectors aim.length =
      ap whole_sectors lies.long in omega (arith, e, short, lies.inside, whole) in
      record {
        inside = drives_inside layout (Install aim image) [] (row.offset + len) o d ends;
        small = let small = lies.small in omega (arith, ends, small);
        aligned = (lies.begins, omega arith);
        can = subst (λ (ms : List Move). CanMakeMoves part_of Grants part_after ms probe o)
            (begins_as len whole)
            (drives_can layout (Install aim image) [] (begin_moves layout aim probe) front.0 probe o d
            (front.1 ∙ ap (λ (l : List Step). l ++ front.0) (sym made)) room look);
      }

  -- the device refused
  pub not_begun : (len : ℕ) (p : Own (Base S Course) Did) (r : Result (Unit {0}) StepNo)
      (why : StepNo) → len ≡ whole_sectors aim.length
      → HasRun 0 (erase_moves probe row.offset len) (fault_of r) o p → r ≡ Err why
      → HasRun 0 (begin_moves layout aim probe) (Err (cause_of why)) o p
  not_begun len p r why whole run is =
      subst (λ (ms : List Move). HasRun 0 ms (Err (cause_of why)) o p) (sym (begins_as len whole))
      (ran_err 0 (erase_moves probe row.offset len) r why o p is run)

  -- a session has begun, once the erases are made
  pub has_begun : (len : ℕ) (p : Own (Base S Course) Did) (r : Result (Unit {0}) StepNo)
      (u : Unit {0}) (target : Target) → len ≡ whole_sectors aim.length
      → HasRun 0 (erase_moves probe row.offset len) (fault_of r) o p → r ≡ Ok u
      → target ≡ target_of layout row aim
      → HasBegun layout aim probe o (record { core = p; target = target; written = 0 })
  has_begun len p r u target whole run fine there =
      let image = open_here.image in
      let d = open_here.drives in
      let lies = slot layout aim image row is [] o d in
      let ran : HasRun 0 (begin_moves layout aim probe) (Ok tt) o p =
      subst (λ (ms : List Move). HasRun 0 ms (Ok tt) o p) (sym (begins_as len whole))
      (ran_ok 0 (erase_moves probe row.offset len) r u o p fine run) in
      let made = steps_of_begin layout aim probe row image is lies.long in
      let later = drives_more layout (Install aim image) [] 0 (begin_moves layout aim probe) o p d ran
      in
      record {
        ran = ran;
        target = subst (λ (found : Option Row). IfSome found (λ r. target ≡ target_of layout r aim))
            (sym is) there;
        written = refl;
        writing = record {
          layout = layout;
          aim = aim;
          image = image;
          row = row;
          row_is = is;
          target_is = there;
          part = record { within = omega arith; paged = inl refl; marked = inl refl };
          drives = drives_as layout (Install aim image) (steps_of (begin_moves layout aim probe))
              (slot_erases row.offset image ++ write_steps row.offset (take 0 image)) p later
              (made ∙ sym (append-nil (slot_erases row.offset image))
              ∙ ap (λ (l : List Step). slot_erases row.offset image ++ l)
              (sym (no_steps row.offset)));
        };
      }

-- ---- a piece

regroup : (e w p more tail : List Step)
    → (e ++ ((w ++ p) ++ more)) ++ tail ≡ (e ++ w) ++ (p ++ (more ++ tail))
regroup e w p more tail =
    append_assoc e ((w ++ p) ++ more) tail
    ∙ ap (λ (l : List Step). e ++ l)
    (append_assoc (w ++ p) more tail ∙ append_assoc w p (more ++ tail))
    ∙ sym (append_assoc e w (p ++ (more ++ tail)))

-- a first piece whose first byte is not another is that of an image
first_marked : (piece image : List ℕ) (len : ℕ) → 1 ≤ length piece → piece ≡ take len image
    → wrong_byte 0 piece ≡ None → take 1 image ≡ 0xE9 ∷ []
unfolding wrong_byte
first_marked [] image len some is none = absurd (omega arith)
first_marked (byte ∷ bytes) [] zero some is none = absurd cc
first_marked (byte ∷ bytes) [] (suc len) some is none = absurd cc
first_marked (byte ∷ bytes) (b ∷ image) zero some is none = absurd cc
first_marked (byte ∷ bytes) (b ∷ image) (suc len) some is none =
    let same : b ≡ byte = cc in
    let mark : byte ≡ 0xE9 = by (byte == 0xE9) refl none in
    ap (λ (x : ℕ). x ∷ []) (same ∙ mark)
  where
    by : (test : Bool) → (byte == 0xE9) ≡ test → (if not test then Some byte else None) ≡ None
        → byte ≡ 0xE9
    by true is none = grind (arith, nat_tests)
    by false is none = absurd cc

-- what a write of a piece asks
pub record CanWrite {S : Type 0} (probe : Option ℕ) (w : Writing (Base S Course)) (piece : List ℕ)
    : Type 0 where
  pub inside : IsInside w.core.base (w.target.at + w.written + length piece)
  pub small : w.target.at + w.written + length piece < 2 ^ 32
  pub can : CanMakeMoves part_of Grants part_after (piece_moves probe w piece) probe w.core

module _ {S : Type 0} (probe : Option ℕ) (w : Writing (Base S Course)) (piece : List ℕ)
    (writing : IsWriting w) (next : IsNextPiece w piece) (right : wrong_byte w.written piece ≡ None)
  where
    abbrev layout : Places
    layout = writing.layout

    abbrev aim : Aim
    aim = writing.aim

    abbrev image : List ℕ
    image = writing.image

    abbrev row : Row
    row = writing.row

    abbrev n : ℕ
    n = w.written

    abbrev len : ℕ
    len = length piece

    abbrev done : List Step
    done = slot_erases row.offset image ++ write_steps row.offset (take n image)

    abbrev closing : List Step
    closing =
        sealed_steps (bad row.size image) [] (rewrite layout.otadata (next_rewrite aim))

    lies : IsSlot (length writing.drives.base.flash) row image aim
    lies = slot layout aim image row writing.row_is done w.core writing.drives

    at_is : w.target.at ≡ row.offset
    at_is = ap (λ (t : Target). t.at) writing.target_is

    long : w.target.length ≡ length image
    long = ap (λ (t : Target). t.length) writing.target_is ∙ sym lies.long

    fits : n + len ≤ length image
    fits = omega (arith, next.left, long)

    piece_is : piece ≡ take len (drop n image)
    piece_is = next.next ∙ ap (λ (l : List ℕ). take len (drop n l))
        (image_is layout aim image row writing.row_is done w.core writing.drives)

    -- what is written so far are whole pages
    before : n % 256 ≡ 0
    before = elim writing.part.paged [
      | inl paged ↦ paged
      | inr all ↦ absurd (let some = next.some in let fit = fits in omega arith)
    ]

    -- so it is behind the piece, or all is written
    behind : ((n + len) % 256 ≡ 0) ⊎ (n + len ≡ length image)
    behind = elim next.paged [
      | inl paged ↦ inl (let first = before in omega arith)
      | inr all ↦ inr (all ∙ long)
    ]

    marked : take 1 image ≡ 0xE9 ∷ []
    marked = elim writing.part.marked [
      | inl none ↦
          first_marked piece image len next.some
          (piece_is ∙ ap (λ (m : ℕ). take len (drop m image)) none)
          (sym (ap (λ (m : ℕ). wrong_byte m piece) none) ∙ right)
      | inr mark ↦ mark
    ]

    begins : row.offset % 256 ≡ 0
    begins = let sector = lies.begins in omega arith

    piece_steps : steps_of (piece_moves probe w piece)
        ≡ write_steps (row.offset + n) (take len (drop n image))
    piece_steps = steps_of_write probe (w.target.at + n) piece
        ∙ (λ i. write_steps (at_is i + n) (piece_is i))

    within : n ≤ length image
    within = writing.part.within

    together : write_steps row.offset (take (n + len) image)
        ≡ write_steps row.offset (take n image) ++ steps_of (piece_moves probe w piece)
    together = write_next row.offset n len image within begins before
        ∙ ap (λ (l : List Step). write_steps row.offset (take n image) ++ l) (sym piece_steps)

    pub can_write : HasRoomFor w.core.base w.core.core w.core.share (piece_moves probe w piece)
        → CanLook w.core.base w.core.regs probe → CanWrite probe w piece
    can_write room look =
        let front = write_front row.offset (n + len) image fits begins behind in
        let tail = data_front layout aim row image writing.row_is marked in
        let ends : w.target.at + n + len ≤ length writing.drives.base.flash =
        let fit = fits in let where_at = at_is in
        let size = lies.fits in let inside = lies.inside in omega arith in
        let small : length writing.drives.base.flash < 2 ^ 32 = lies.small in
        record {
          inside = drives_inside layout (Install aim image) done _ w.core writing.drives ends;
          small = omega arith;
          can = drives_can layout (Install aim image) done (piece_moves probe w piece)
              (front.0 ++ closing) probe w.core writing.drives
              (tail
              ∙ ap (λ (l : List Step). (slot_erases row.offset image ++ l) ++ closing)
              (front.1 ∙ ap (λ (l : List Step). l ++ front.0) together)
              ∙ regroup (slot_erases row.offset image) (write_steps row.offset (take n image))
              (steps_of (piece_moves probe w piece)) front.0 closing) room look;
        }

    -- the piece is written, once its moves are made
    pub has_written : (p : Own (Base S Course) Did)
        → HasRun 0 (piece_moves probe w piece) (Ok tt) w.core p
        → HasWritten probe piece w
        (record { core = p; target = w.target; written = n + len })
    has_written p run =
        let later = drives_more layout (Install aim image) done 0 (piece_moves probe w piece) w.core p
        writing.drives run in
        record {
          first = right;
          ran = run;
          target = refl;
          written = refl;
          writing = record {
            layout = layout;
            aim = aim;
            image = image;
            row = row;
            row_is = writing.row_is;
            target_is = writing.target_is;
            part = record { within = fits; paged = behind; marked = inr marked };
            drives = drives_as layout (Install aim image)
                (done ++ steps_of (piece_moves probe w piece))
                (slot_erases row.offset image ++ write_steps row.offset (take (n + len) image)) p later
                (append_assoc (slot_erases row.offset image)
                (write_steps row.offset (take n image)) (steps_of (piece_moves probe w piece))
                ∙ ap (λ (l : List Step). slot_erases row.offset image ++ l) (sym together));
          };
        }

-- the same of a session that is taken apart

pub can_write_at : {S : Type 0} (probe : Option ℕ) (w self : Writing (Base S Course))
    (piece : List ℕ) → w ≡ self → IsWriting self → IsNextPiece self piece
    → wrong_byte w.written piece ≡ None
    → HasRoomFor self.core.base self.core.core self.core.share (piece_moves probe self piece)
    → CanLook self.core.base self.core.regs probe → CanWrite probe w piece
can_write_at {S} probe w self piece same =
    subst (λ (s : Writing (Base S Course)). IsWriting s → IsNextPiece s piece
    → wrong_byte w.written piece ≡ None
    → HasRoomFor s.core.base s.core.core s.core.share (piece_moves probe s piece)
    → CanLook s.core.base s.core.regs probe → CanWrite probe w piece) same
    (λ writing next right room look. can_write probe w piece writing next right room look)

pub has_written_at : {S : Type 0} (probe : Option ℕ) (w self : Writing (Base S Course))
    (piece : List ℕ) (p : Own (Base S Course) Did) (r : Result (Unit {0}) StepNo) (u : Unit {0})
    → w ≡ self → IsWriting self → IsNextPiece self piece → wrong_byte w.written piece ≡ None
    → HasRun 0 (piece_moves probe w piece) (fault_of r) w.core p → r ≡ Ok u
    → HasWritten probe piece self
    (record { core = p; target = w.target; written = w.written + length piece })
has_written_at {S} probe w self piece p r u same writing next right run fine =
    subst (λ (s : Writing (Base S Course)). IsWriting s → IsNextPiece s piece
    → HasWritten probe piece s
    (record { core = p; target = w.target; written = w.written + length piece })) same
    (λ writing next. has_written probe w piece writing next right p
    (ran_ok 0 (piece_moves probe w piece) r u w.core p fine run)) writing next
