-- The entry of a session, and of a confirmation: what its rewrite asks.
use Rattle.std.proofs.Common.{◌≡◌, ◌≢◌, inl, inr, ℕ, ◌+◌, ◌%◌, ◌^◌, ◌<◌, List, [], ◌∷◌, ◌++◌, length, take, Option, Some, None, IfSome, IfOk, Result, Ok, Err, refl, sym, ap, ◌∙◌, subst, arith, append-nil}
use Rattle.std.proofs.lemmas.List.{take_all}
use Rattle.nor_device.specs.declared.step.Step.{Step}
use Rattle.nor_device.specs.declared.nor.NorFault.{NorFault}
use Rattle.partition_table.specs.declared.row.Row.{Row}
use Rattle.partition_table.specs.Layout.{IsPlaced, Places}
use Rattle.otadata.proofs.ChoiceLemmas.{active-lt}
use Rattle.boot_select.specs.Boots.{entries_in}
use Rattle.rollback.specs.declared.rewrite.Rewrite.{Rewrite}
use Rattle.image_verify.specs.declared.bad.BadImage.{BadImage}
use Rattle.image_verify.specs.Bad.{bad}
use Rattle.boot_run.specs.Rewriting.{rewrite}
use Rattle.bus_hub.specs.declared.did.Base.{Base}
use Rattle.bus_hub.specs.declared.did.Did.{Did}
use Rattle.cache_gate.specs.Own.{IsInside, Own}
use Rattle.flash_steps.specs.Steps.{write_steps}
use Rattle.update_steps.specs.Driver.{data_steps, driver_steps, next_rewrite, sealed_steps, slot_erases}
use Rattle.update_steps.proofs.SessionLemmas.{sector_two}
use Rattle.flash_ops.specs.Asked.{CanLook, HasRoomFor, MayMakeAll}
use Rattle.flash_ops.specs.declared.refusal.StepNo.{StepNo}
use Rattle.flash_ops.specs.Told.{fault_of}
use Rattle.flash_ops.specs.declared.refusal.StepNo.TheVariants as steps
use Rattle.flash_ops.specs.Moves.{HasRun, Move, read_moves}
use Rattle.flash_ops.proofs.Pieces.{steps_of_read}
use Rattle.flash_ops.proofs.Runs.{base_same}
use Rattle.ota_session.specs.Course.{Confirm, Confirms, Course, Grants, Install, IsFor, Purpose, part_after, part_of, steps_for}
use Rattle.ota_session.specs.GoodLaws.{placed}
use Rattle.ota_session.specs.declared.target.Target.{Target}
use Rattle.ota_session.specs.Stages.{Drives, IsToConfirm, IsVerified, IsWriting, IsWritten, Verified, Writing, confirm_moves, entry_moves, image_of}
use Rattle.ota_session.specs.SessionTold.{HasVerified, IsNotVerified, answered_by, cause_of, found_as, unread_by}
use Rattle.ota_session.specs.declared.refusal.EndNo.{EndNo}
use Rattle.ota_session.specs.declared.refusal.EndNo.TheVariants as ends
use Rattle.ota_session.proofs.MoveLemmas.{data_front}
use Rattle.ota_session.proofs.StageLemmas.{drives_as, drives_inside, drives_may, image_is, installs, ran_err, ran_ok, slot}
use Rattle.flash_ops.specs.Periods.{HasPeriods, read_periods}
use Rattle.flash_ops.proofs.PeriodLemmas.{read_periods_none, shown_none}
use Rattle.ota_session.proofs.ReadBackLemmas.{still_written}

-- what the rewrite of an entry asks
pub record CanAnnounce {S : Type 0} (otadata : ℕ) (write : Rewrite) (o : Own (Base S Course) Did)
    : Type 0 where
  pub two : write.sector < 2
  pub aligned : otadata % 4096 ≡ 0
  pub inside : IsInside o.base (otadata + 8192)
  pub small : otadata + 8192 < 2 ^ 32
  pub may : MayMakeAll part_of Grants part_after o.base o.core o.share (rewrite otadata write)

module _ {S : Type 0} (layout : Places) (purpose : Purpose) (done : List Step) (write : Rewrite)
    (o : Own (Base S Course) Did) (d : Drives layout purpose done o) (two : write.sector < 2)
    (split : steps_for layout purpose ≡ done ++ rewrite layout.otadata write) where
  lies : IsPlaced layout (length d.base.flash)
  lies = subst (λ (c : Course). IsPlaced c.layout (length d.base.flash)) d.duty
      (placed d.base.flash d.base.duty d.made_for)

  pub announces : CanAnnounce layout.otadata write o
  announces =
      let inside = lies.inside in
      let small = d.small in
      record {
        two = two;
        aligned = lies.aligned;
        inside = drives_inside layout purpose done (layout.otadata + 8192) o d inside;
        small = omega arith;
        may = drives_may layout purpose done (rewrite layout.otadata write) [] o d
            (split ∙ ap (λ (l : List Step). done ++ l) (sym (append-nil (rewrite layout.otadata write))));
      }

-- ---- of a confirmation

pub can_confirm : {S : Type 0} (layout : Places) (write : Rewrite) (o : Own (Base S Course) Did)
    → IsToConfirm layout write o → CanAnnounce layout.otadata write o
can_confirm layout write o to =
    let d = to.drives in
    let es = entries_in layout d.base.flash in
    let confirms : Confirms layout d.base.flash write =
    subst (λ (c : Course). IsFor c.layout d.base.flash c.purpose) d.duty d.made_for.purpose in
    let below : confirms.sector < 2 = subst (λ (o : Option ℕ). IfSome o (λ number. number < 2))
    confirms.active (active-lt (es 0) (es 1)) in
    let same : write.sector ≡ confirms.sector = ap (λ (w : Rewrite). w.sector) confirms.is in
    announces layout (Confirm write) [] write o d (omega arith) refl

-- the same where the place of the OTA data was read before
module _ {S : Type 0} (probe : Option ℕ) (otadata : ℕ) (layout : Places) (write : Rewrite)
    (o : Own (Base S Course) Did) (same : otadata ≡ layout.otadata) where
  pub can_confirm_at : IsToConfirm layout write o → CanAnnounce otadata write o
  can_confirm_at to =
      subst (λ (n : ℕ). CanAnnounce n write o) (sym same) (can_confirm layout write o to)

  pub room_at : HasRoomFor o.base o.core o.share (confirm_moves layout write probe)
      → HasRoomFor o.base o.core o.share (entry_moves probe otadata write)
  room_at room =
      subst (λ (n : ℕ). HasRoomFor o.base o.core o.share (entry_moves probe n write)) (sym same) room

  module _ (p : Own (Base S Course) Did) (r : Result (Unit {0}) StepNo)
      (run : HasRun 0 (entry_moves probe otadata write) (fault_of r) o p) where
    pub confirmed_at : (u : Unit {0}) → r ≡ Ok u
        → HasRun 0 (confirm_moves layout write probe) (Ok tt) o p
    confirmed_at u fine = subst (λ (n : ℕ). HasRun 0 (entry_moves probe n write) (Ok tt) o p) same
        (ran_ok 0 (entry_moves probe otadata write) r u o p fine run)

    pub not_confirmed_at : (why : StepNo) → r ≡ Err why
        → HasRun 0 (confirm_moves layout write probe) (Err (cause_of why)) o p
    not_confirmed_at why is =
        subst (λ (n : ℕ). HasRun 0 (entry_moves probe n write) (Err (cause_of why)) o p) same
        (ran_err 0 (entry_moves probe otadata write) r why o p is run)

-- ---- of a session

pub can_seal : {S : Type 0} (v : Verified (Base S Course)) → IsVerified v
    → CanAnnounce v.target.otadata v.target.next v.core
can_seal {S} v is =
    let w = is.written in
    let d = w.drives in
    let done = data_steps w.row.offset w.image in
    let same = image_is w.layout w.aim w.image w.row w.row_is done v.core d in
    let opens = (installs w.layout w.aim w.image w.row w.row_is done v.core d).opens in
    let entry = rewrite w.layout.otadata (next_rewrite w.aim) in
    let size : v.target.size ≡ w.row.size = ap (λ (t : Target). t.size) w.target_is in
    let whole : bad w.row.size w.image ≡ None =
    sym (λ i. bad (size i) (same i)) ∙ is.whole in
    let split : driver_steps w.layout w.aim w.image ≡ done ++ entry =
    data_front w.layout w.aim w.row w.image w.row_is w.marked
    ∙ ap (λ (found : Option BadImage). done ++ sealed_steps found [] entry) whole in
    subst (λ (t : Target). CanAnnounce t.otadata t.next v.core) (sym w.target_is)
    (announces w.layout (Install w.aim w.image) done (next_rewrite w.aim) v.core d
    (sector_two w.layout d.base.flash w.aim
    (installs w.layout w.aim w.image w.row w.row_is done v.core d).old w.image opens) split)

-- the same of a session that is taken apart
pub can_seal_at : {S : Type 0} (v self : Verified (Base S Course)) → v ≡ self → IsVerified self
    → CanAnnounce v.target.otadata v.target.next v.core
can_seal_at {S} v self same is =
    can_seal v (subst (λ (x : Verified (Base S Course)). IsVerified x) (sym same) is)

module _ {S : Type 0} (probe : Option ℕ) (v self : Verified (Base S Course)) (same : v ≡ self)
  where
    pub seal_room_at : HasRoomFor self.core.base self.core.core self.core.share
        (entry_moves probe self.target.otadata self.target.next)
        → HasRoomFor v.core.base v.core.core v.core.share
        (entry_moves probe v.target.otadata v.target.next)
    seal_room_at room = subst (λ (x : Verified (Base S Course)).
        HasRoomFor x.core.base x.core.core x.core.share
        (entry_moves probe x.target.otadata x.target.next)) (sym same) room

    pub seal_look_at : CanLook self.core.base self.core.regs probe
        → CanLook v.core.base v.core.regs probe
    seal_look_at look = subst (λ (x : Verified (Base S Course)).
        CanLook x.core.base x.core.regs probe) (sym same) look

module _ {S : Type 0} (probe : Option ℕ) (v self : Verified (Base S Course)) (same : v ≡ self)
    (p : Own (Base S Course) Did) (r : Result (Unit {0}) StepNo)
    (run : HasRun 0 (entry_moves probe v.target.otadata v.target.next) (fault_of r) v.core p) where
  pub sealed_at : (u : Unit {0}) → r ≡ Ok u
      → HasRun 0 (entry_moves probe self.target.otadata self.target.next) (Ok tt) self.core p
  sealed_at u fine = subst (λ (x : Verified (Base S Course)).
      HasRun 0 (entry_moves probe x.target.otadata x.target.next) (Ok tt) x.core p) same
      (ran_ok 0 (entry_moves probe v.target.otadata v.target.next) r u v.core p fine run)

  pub not_sealed_at : (why : StepNo) → r ≡ Err why
      → HasRun 0 (entry_moves probe self.target.otadata self.target.next) (Err (cause_of why))
      self.core p
  not_sealed_at why is = subst (λ (x : Verified (Base S Course)).
      HasRun 0 (entry_moves probe x.target.otadata x.target.next) (Err (cause_of why)) x.core p)
      same (ran_err 0 (entry_moves probe v.target.otadata v.target.next) r why v.core p is run)

-- ---- the end of a session

-- no byte of a list without bytes
no_bytes : (l : List ℕ) → length l ≡ 0 → l ≡ []
no_bytes [] none = refl
no_bytes (x ∷ l) none = absurd (omega arith)

module _ {S : Type 0} (w : Writing (Base S Course)) (is : IsWriting w)
    (all : w.written ≡ w.target.length) where
  abbrev row : Row
  row = is.row

  image_here : image_of w.core.base ≡ is.image
  image_here = image_is is.layout is.aim is.image is.row is.row_is
      (slot_erases row.offset is.image ++ write_steps row.offset (take w.written is.image)) w.core
      is.drives

  size : w.written ≡ length is.image
  size = all ∙ ap (λ (t : Target). t.length) is.target_is ∙ sym (slot is.layout is.aim is.image is.row
      is.row_is (slot_erases row.offset is.image
      ++ write_steps row.offset (take w.written is.image)) w.core is.drives).long

  -- nothing is written of an image without bytes
  pub nothing_written : w.written ≡ 0 → image_of w.core.base ≡ []
  nothing_written none = image_here ∙ no_bytes is.image (sym size ∙ none)

  pub some_written : (w.written ≡ 0 → ⊥) → image_of w.core.base ≢ []
  some_written some empty =
      some (size ∙ ap (λ (l : List ℕ). length l) (sym image_here ∙ empty))

  -- all bytes of it are
  pub all_written : (w.written ≡ 0 → ⊥) → IsWritten w.target w.core
  all_written some = record {
    layout = is.layout;
    aim = is.aim;
    image = is.image;
    row = is.row;
    row_is = is.row_is;
    target_is = is.target_is;
    marked = elim is.part.marked [
      | inl none ↦ absurd (some none)
      | inr mark ↦ mark
    ];
    drives = drives_as is.layout (Install is.aim is.image)
        (slot_erases row.offset is.image ++ write_steps row.offset (take w.written is.image))
        (data_steps row.offset is.image) w.core is.drives
        (ap (λ (l : List ℕ). slot_erases row.offset is.image ++ write_steps row.offset l)
        (take_all w.written is.image (omega (arith, size))));
  }

  module _ (some : w.written ≡ 0 → ⊥) (p : Own (Base S Course) Did)
      (r : Result (Option BadImage) StepNo)
      (run : HasRun 0 (read_moves w.target.length) (found_as r) w.core p)
      (exact : IfOk r (λ found. bad w.target.size (image_of w.core.base) ≡ found)) where
    reads : read_moves w.target.length ≡ read_moves w.written
    reads = ap read_moves (sym all)

    ran : (found : Option BadImage) → r ≡ Ok found
        → HasRun 0 (read_moves w.written) (Ok tt) w.core p
    ran found fine = subst (λ (ms : List Move). HasRun 0 ms (Ok tt) w.core p) reads
        (subst (λ (x : Result (Option BadImage) StepNo).
        HasRun 0 (read_moves w.target.length) (found_as x) w.core p) fine run)

    shown : (found : Option BadImage) → r ≡ Ok found
        → bad w.target.size (image_of w.core.base) ≡ found
    shown found fine = subst (λ (x : Result (Option BadImage) StepNo).
        IfOk x (λ found. bad w.target.size (image_of w.core.base) ≡ found)) fine exact

    -- they are a whole image
    pub has_verified : r ≡ Ok None → HasVerified w (record { core = p; target = w.target })
    has_verified fine =
        let same : p.base ≡ w.core.base =
        base_same 0 (read_moves w.written) (Ok tt) w.core p (ran None fine) in
        record {
          ran = ran None fine;
          target = refl;
          verified = record {
            written = still_written w.target w.core (all_written some) (read_moves w.written)
                (Ok tt) tt p (steps_of_read w.written) refl (ran None fine);
            whole = ap (λ (b : Option (Base S Course)). bad w.target.size (image_of b)) same
                ∙ shown None fine;
          };
        }

    -- they show a fault
    pub is_faulty : (why : BadImage) → r ≡ Ok (Some why)
        → IsNotVerified (image_of w.core.base) w (ends.Bad why) p
    is_faulty why fine = (some_written some, shown (Some why) fine, ran (Some why) fine)

    -- the device refused
    pub not_read : (why : StepNo) → r ≡ Err why
        → (image_of w.core.base ≢ [])
        × HasRun 0 (read_moves w.written) (Err (cause_of why)) w.core p
    not_read why is = (
      some_written some,
      subst (λ (ms : List Move). HasRun 0 ms (Err (cause_of why)) w.core p) reads
          (subst (λ (x : Result (Option BadImage) StepNo).
          HasRun 0 (read_moves w.target.length) (found_as x) w.core p) is run),
    )

-- the same of a session that is taken apart
module _ {S : Type 0} (w self : Writing (Base S Course)) (same : w ≡ self) (is : IsWriting self)
    (all : self.written ≡ self.target.length) where
  is_here : IsWriting w
  is_here = subst (λ (x : Writing (Base S Course)). IsWriting x) (sym same) is

  all_here : w.written ≡ w.target.length
  all_here =
      subst (λ (x : Writing (Base S Course)). x.written ≡ x.target.length) (sym same) all

  pub all_written_at : (w.written ≡ 0 → ⊥) → IsWritten w.target w.core
  all_written_at some = all_written w is_here all_here some

  pub nothing_at : w.written ≡ 0 → IsNotVerified (image_of self.core.base) self ends.Empty w.core
  nothing_at none =
      subst (λ (x : Writing (Base S Course)).
      IsNotVerified (image_of x.core.base) x ends.Empty w.core) same
      (nothing_written w is_here all_here none, refl)

  module _ (some : w.written ≡ 0 → ⊥) (p : Own (Base S Course) Did)
      (r : Result (Option BadImage) StepNo)
      (run : HasRun 0 (read_moves w.target.length) (found_as r) w.core p)
      (exact : IfOk r (λ found. bad w.target.size (image_of w.core.base) ≡ found)) where
    pub verified_at : (found : Option BadImage) → r ≡ Ok found → found ≡ None
        → HasVerified self (record { core = p; target = w.target })
    verified_at found fine none = subst (λ (x : Writing (Base S Course)).
        HasVerified x (record { core = p; target = w.target })) same
        (has_verified w is_here all_here some p r run exact
        (fine ∙ ap (λ (x : Option BadImage). Ok x) none))

    pub faulty_at : (found : Option BadImage) (why : BadImage) → r ≡ Ok found → found ≡ Some why
        → IsNotVerified (image_of self.core.base) self (ends.Bad why) p
    faulty_at found why fine some_why = subst (λ (x : Writing (Base S Course)).
        IsNotVerified (image_of x.core.base) x (ends.Bad why) p) same
        (is_faulty w is_here all_here some p r run exact why
        (fine ∙ ap (λ (x : Option BadImage). Ok x) some_why))

    pub unread_at : (why : StepNo) (told : EndNo) → r ≡ Err why → told ≡ unread_by why
        → IsNotVerified (image_of self.core.base) self told p
    unread_at why told fault is_told = subst (λ (x : Writing (Base S Course)).
        IsNotVerified (image_of x.core.base) x told p) same
        (subst (λ (x : EndNo). IsNotVerified (image_of w.core.base) w x p) (sym is_told)
        (by why (not_read w is_here all_here some p r run exact why fault)))
      where
        by : (why : StepNo) → (image_of w.core.base ≢ [])
            × HasRun 0 (read_moves w.written) (Err (cause_of why)) w.core p
            → IsNotVerified (image_of w.core.base) w (unread_by why) p
        by steps.Device told = told
        by steps.Cut told = told

-- in the quiet periods of the read
module _ {S : Type 0} (w self : Writing (Base S Course)) (same : w ≡ self)
    (all : self.written ≡ self.target.length) (p : Own (Base S Course) Did)
    (r : Result (Option BadImage) StepNo)
    (periods : HasPeriods (read_periods w.target.length) (found_as r) w.core p) where
  there : HasPeriods (read_periods self.written) (found_as r) self.core p
  there = subst (λ (n : ℕ). HasPeriods (read_periods n) (found_as r) self.core p) (sym all)
      (subst (λ (x : Writing (Base S Course)).
      HasPeriods (read_periods x.target.length) (found_as r) x.core p) same periods)

  pub read_whole_at : (found : Option BadImage) → r ≡ Ok found
      → HasPeriods {E = NorFault} (read_periods self.written) (Ok tt) self.core p
  read_whole_at found fine =
      subst (λ (x : Result (Option BadImage) StepNo).
      HasPeriods (read_periods self.written) (found_as x) self.core p) fine there

  pub read_part_at : (why : StepNo) (told : EndNo) → r ≡ Err why → told ≡ unread_by why
      → HasPeriods (read_periods self.written) (answered_by told) self.core p
  read_part_at why told fault is_told =
      subst (λ (x : EndNo). HasPeriods (read_periods self.written) (answered_by x) self.core p)
      (sym is_told)
      (by why (subst (λ (x : Result (Option BadImage) StepNo).
      HasPeriods (read_periods self.written) (found_as x) self.core p) fault there))
    where
      by : (why : StepNo) → HasPeriods (read_periods self.written) (found_as (Err why)) self.core p
          → HasPeriods (read_periods self.written) (answered_by (unread_by why)) self.core p
      by steps.Device told = told
      by steps.Cut told = told

-- none where nothing is written
pub read_none_at : {S : Type 0} (w self : Writing (Base S Course)) → w ≡ self → w.written ≡ 0
    → HasPeriods {E = NorFault} (read_periods self.written) (Ok tt) self.core w.core
read_none_at {S} w self same none =
    subst (λ (x : Writing (Base S Course)).
    HasPeriods {E = NorFault} (read_periods x.written) (Ok tt) x.core w.core) same
    (subst (λ (l : List ℕ). HasPeriods {E = NorFault} l (Ok tt) w.core w.core)
    (sym (ap read_periods none ∙ read_periods_none))
    (record { made = []; by_answer = refl; shows = shown_none w.core }))
