-- A session that is driven from its begin to its end: its moves, and the room for those to come.
use Rattle.std.proofs.Common.{◌≡◌, ℕ, ◌+◌, Bool, true, false, List, [], ◌∷◌, ◌++◌, length, take, Option, Some, None, IfOk, IfSome, Result, Ok, Err, refl, sym, ap, ◌∙◌, subst, arith}
use Rattle.std.specs.Prelude.{◌==◌, not, if◌then◌else◌, slice_get}
use Rattle.nor_device.specs.declared.nor.NorFault.{NorFault}
use Rattle.partition_table.specs.declared.row.Row.{Row}
use Rattle.partition_table.specs.Layout.{Places}
use Rattle.rollback.specs.declared.rewrite.Rewrite.{Rewrite}
use Rattle.image_verify.specs.declared.bad.BadImage.{BadImage}
use Rattle.image_verify.specs.Bad.{bad}
use Rattle.boot_run.specs.declared.aims.Aim.{Aim}
use Rattle.bus_hub.specs.declared.did.Base.{Base}
use Rattle.bus_hub.specs.declared.did.Did.{Did}
use Rattle.cache_gate.specs.Own.{Keeps, Own}
use Rattle.update_steps.specs.Driver.{next_rewrite}
use Rattle.flash_ops.specs.declared.refusal.StepNo.{StepNo}
use Rattle.flash_ops.specs.Asked.{CanLook, HasRoomFor}
use Rattle.flash_ops.specs.Moves.{HasRun, Move, bytes_for, entries_for, read_moves, write_moves}
use Rattle.flash_ops.proofs.Can.{room_less, run_spends}
use Rattle.flash_ops.proofs.Pieces.{entries_of_read, write_nothing}
use Rattle.flash_ops.proofs.Runs.{base_same, bytes_for-append, entries_for-append, keeps_same, run_none, run_stops, run_then}
use Rattle.ota_session.specs.declared.refusal.EndNo.{EndNo}
use Rattle.ota_session.specs.declared.refusal.EndNo.TheVariants as refusals
use Rattle.ota_session.specs.declared.refusal.WriteNo.{WriteNo}
use Rattle.ota_session.specs.declared.refusal.WriteNo.TheVariants as writes
use Rattle.ota_session.specs.declared.target.Target.{Target}
use Rattle.ota_session.specs.Course.{Course, Install, Installs, IsFor}
use Rattle.ota_session.specs.SessionTold.{HasBegun, HasVerified, IsNotVerified, cause_of, wrong_byte}
use Rattle.ota_session.specs.Stages.{Drives, IsOpen, Verified, Writing, begin_moves, closing_moves, entry_moves, image_moves, image_of, in_slot, session_moves, target_of}
use Rattle.ota_session.proofs.StageLemmas.{image_is}
use Rattle.power_cut.specs.declared.legs.LegEnd.{LegEnd}
use Rattle.power_cut.specs.declared.legs.LegEnd.TheVariants.{Done, FirstByte}
use Rattle.power_cut.specs.Update.{sealed_end, session_end, size_or_none, slot_size}
use Rattle.duo_run.specs.Paced.{closed_ops, entry_ops}
use Rattle.duo_run.specs.Driving.{HasWrittenAll, IsNotAllWritten, all_moves, closed_end, ended_as, seal_moves, unsealed_as, unwritten_as}

-- ---- room and look behind moves that were made

module _ {S : Type 0} where
  pub room_front : (a b : List Move) (o : Own (Base S Course) Did)
      → HasRoomFor o.base o.core o.share (a ++ b) → HasRoomFor o.base o.core o.share a
  room_front a b o room =
      let e = entries_for-append a b in
      let f = bytes_for-append a b in
      room_less o.base o.core o.share (entries_for a) (bytes_for a) (entries_for (a ++ b))
      (bytes_for (a ++ b)) (omega arith) (omega arith) room

  pub room_rest : (a b : List Move) (o p : Own (Base S Course) Did)
      → HasRoomFor o.base o.core o.share (a ++ b) → HasRun 0 a (Ok tt) o p
      → HasRoomFor p.base p.core p.share b
  room_rest a b o p room run =
      let e = entries_for-append a b in
      let f = bytes_for-append a b in
      (run_spends 0 a (Ok tt) o p (entries_for a) (bytes_for a) run (omega arith)
      (omega arith)).room (entries_for b) (bytes_for b)
      (room_less o.base o.core o.share (entries_for b + entries_for a) (bytes_for b + bytes_for a)
      (entries_for (a ++ b)) (bytes_for (a ++ b)) (omega arith) (omega arith) room)

  pub look_rest : (ms : List Move) (r : Result (Unit {0}) NorFault)
      (o p : Own (Base S Course) Did) (probe : Option ℕ) → HasRun 0 ms r o p
      → CanLook o.base o.regs probe → CanLook p.base p.regs probe
  look_rest ms r o p probe run look =
      subst (λ (z : Own (Base S Course) Did). CanLook z.base z.regs probe) (sym run.adds.is) look

-- ---- the end of a session

module _ {S : Type 0} (probe : Option ℕ) (w : Writing (Base S Course)) where
  abbrev entry : List Move
  entry = entry_moves probe w.target.otadata w.target.next

  abbrev reads : List Move
  reads = read_moves w.written

  -- a refusal in the read is one of all that closes the session
  closing_stops : (found : Option BadImage) (why : NorFault) (o : Own (Base S Course) Did)
      → HasRun 0 reads (Err why) w.core o
      → HasRun 0 (closing_moves found reads entry) (Err why) w.core o
  closing_stops None why o run = run_stops 0 reads entry why w.core o run
  closing_stops (Some bad) why o run = run

  -- the image is not announced
  pub not_sealed : (image : List ℕ) (refused_so : EndNo) (o : Own (Base S Course) Did)
      → IsNotVerified image w refused_so o
      → HasRun 0 (seal_moves probe w image) (ended_as (unsealed_as refused_so)) w.core o
  not_sealed [] refusals.Empty o x =
      run_none 0 w.core o
      (subst (λ (z : Own (Base S Course) Did). Keeps w.core z) (sym x.1) (keeps_same w.core))
  not_sealed (byte ∷ bytes) refusals.Empty o x = let refused_so = x.0 in absurd cc
  not_sealed [] (refusals.Bad why) o x = absurd (x.0 refl)
  not_sealed (byte ∷ bytes) (refusals.Bad why) o x =
      subst (λ (found : Option BadImage).
      HasRun 0 (closing_moves found reads entry) (Ok tt) w.core o) (sym x.1) x.2
  not_sealed [] refusals.Device o x = absurd (x.0 refl)
  not_sealed (byte ∷ bytes) refusals.Device o x =
      closing_stops (bad w.target.size (byte ∷ bytes)) _ o x.1
  not_sealed [] refusals.Cut o x = absurd (x.0 refl)
  not_sealed (byte ∷ bytes) refusals.Cut o x =
      closing_stops (bad w.target.size (byte ∷ bytes)) _ o x.1

  pub not_sealed_end : (image : List ℕ) (refused_so : EndNo) (o : Own (Base S Course) Did)
      → IsNotVerified image w refused_so o
      → IfOk (unsealed_as refused_so) (λ end. end ≡ closed_end w.target.size image)
  not_sealed_end [] refusals.Empty o x = refl
  not_sealed_end (byte ∷ bytes) refusals.Empty o x = let refused_so = x.0 in absurd cc
  not_sealed_end [] (refusals.Bad why) o x = absurd (x.0 refl)
  not_sealed_end (byte ∷ bytes) (refusals.Bad why) o x =
      sym (ap (λ (found : Option BadImage). sealed_end found) x.1)
  not_sealed_end image refusals.Device o x = tt
  not_sealed_end image refusals.Cut o x = tt

  -- it is
  module _ (v : Verified (Base S Course)) (x : HasVerified w v) where
    same_image : image_of v.core.base ≡ image_of w.core.base
    same_image = ap (λ (b : Option (Base S Course)). image_of b)
        (base_same 0 reads (Ok tt) w.core v.core x.ran)

    size_is : v.target.size ≡ w.target.size
    size_is = ap (λ (t : Target). t.size) x.target

    whole : bad w.target.size (image_of w.core.base) ≡ None
    whole = sym (λ i. bad (size_is i) (same_image i)) ∙ x.verified.whole

    marked : take 1 (image_of w.core.base) ≡ 0xE9 ∷ []
    marked =
        let t = x.verified.written in
        ap (λ (l : List ℕ). take 1 l)
        (sym same_image ∙ image_is t.layout t.aim t.image t.row t.row_is _ v.core t.drives)
        ∙ t.marked

    closing_is : (image : List ℕ) → take 1 image ≡ 0xE9 ∷ [] → bad w.target.size image ≡ None
        → seal_moves probe w image ≡ reads ++ entry
    closing_is [] first none = absurd cc
    closing_is (byte ∷ bytes) first none =
        ap (λ (found : Option BadImage). closing_moves found reads entry) none

    end_is : (image : List ℕ) → take 1 image ≡ 0xE9 ∷ [] → bad w.target.size image ≡ None
        → Done ≡ closed_end w.target.size image
    end_is [] first none = absurd cc
    end_is (byte ∷ bytes) first none =
        sym (ap (λ (found : Option BadImage). sealed_end found) none)

    pub sealed_ran : (r : Result (Unit {0}) NorFault) (p : Own (Base S Course) Did)
        → HasRun 0 (entry_moves probe v.target.otadata v.target.next) r v.core p
        → HasRun 0 (seal_moves probe w (image_of w.core.base)) r w.core p
    sealed_ran r p run =
        subst (λ (ms : List Move). HasRun 0 ms r w.core p)
        (sym (closing_is (image_of w.core.base) marked whole))
        (run_then 0 reads entry r w.core v.core p x.ran
        (subst (λ (t : Target). HasRun 0 (entry_moves probe t.otadata t.next) r v.core p) x.target
        run))

    closes_is : (image : List ℕ) → take 1 image ≡ 0xE9 ∷ [] → bad w.target.size image ≡ None
        → 2 ≡ closed_ops w.target.size image
    closes_is [] first none = absurd cc
    closes_is (byte ∷ bytes) first none =
        sym (ap (λ (found : Option BadImage). entry_ops found) none)

    pub sealed_ops : 2 ≡ closed_ops w.target.size (image_of w.core.base)
    sealed_ops = closes_is (image_of w.core.base) marked whole

    pub sealed_end_is : Done ≡ closed_end w.target.size (image_of w.core.base)
    sealed_end_is = end_is (image_of w.core.base) marked whole

    pub sealed_room : HasRoomFor w.core.base w.core.core w.core.share entry
        → HasRoomFor v.core.base v.core.core v.core.share
        (entry_moves probe v.target.otadata v.target.next)
    sealed_room room =
        let none = entries_of_read w.written in
        let e = none.0 in
        let b = none.1 in
        subst (λ (t : Target). HasRoomFor v.core.base v.core.core v.core.share
        (entry_moves probe t.otadata t.next)) (sym x.target)
        ((run_spends 0 reads (Ok tt) w.core v.core 0 0 x.ran (omega arith) (omega arith)).room
        (entries_for entry) (bytes_for entry)
        (room_less w.core.base w.core.core w.core.share (entries_for entry + 0)
        (bytes_for entry + 0) (entries_for entry) (bytes_for entry) (omega arith) (omega arith)
        room))

    pub sealed_look : CanLook w.core.base w.core.regs probe → CanLook v.core.base v.core.regs probe
    sealed_look look = look_rest reads (Ok tt) w.core v.core probe x.ran look

-- ---- a whole session

pub open_here : {S : Type 0} (layout : Places) (aim : Aim) (image : List ℕ)
    (o : Own (Base S Course) Did) → Drives layout (Install aim image) [] o → IsOpen layout aim o
open_here layout aim image o drives = record { image = image; drives = drives }

-- what the first byte decides
wrong_none : (probe : Option ℕ) (otadata : ℕ) (row : Row) (next : Rewrite) (image : List ℕ)
    (byte : ℕ) → wrong_byte 0 image ≡ Some byte → image_moves probe otadata row next image ≡ []
unfolding wrong_byte
wrong_none probe otadata row next [] byte is = absurd cc
wrong_none probe otadata row next (first ∷ bytes) byte is = by (first == 0xE9) is
  where
    writing : List Move
    writing = write_moves probe row.offset (first ∷ bytes)
        ++ closing_moves (bad row.size (first ∷ bytes)) (read_moves (length (first ∷ bytes)))
        (entry_moves probe otadata next)

    by : (mark : Bool) → (if not mark then Some first else None) ≡ Some byte
        → (if mark then writing else []) ≡ []
    by true is = absurd cc
    by false is = refl

wrong_end : (size : ℕ) (image : List ℕ) (byte : ℕ) → wrong_byte 0 image ≡ Some byte
    → FirstByte byte ≡ session_end size image
unfolding wrong_byte
wrong_end size [] byte is = absurd cc
wrong_end size (first ∷ bytes) byte is = by (first == 0xE9) is
  where
    by : (mark : Bool) → (if not mark then Some first else None) ≡ Some byte
        → FirstByte byte
        ≡ (if mark then sealed_end (bad size (first ∷ bytes)) else FirstByte first)
    by true is = absurd cc
    by false is = let same : first ≡ byte = cc in ap FirstByte (sym same)

right_end : (size : ℕ) (image : List ℕ) → wrong_byte 0 image ≡ None
    → closed_end size image ≡ session_end size image
unfolding wrong_byte
right_end size [] is = refl
right_end size (first ∷ bytes) is = by (first == 0xE9) is
  where
    by : (mark : Bool) → (if not mark then Some first else None) ≡ None
        → sealed_end (bad size (first ∷ bytes))
        ≡ (if mark then sealed_end (bad size (first ∷ bytes)) else FirstByte first)
    by true is = refl
    by false is = absurd cc

module _ {S : Type 0} (layout : Places) (aim : Aim) (image : List ℕ) (probe : Option ℕ)
    (o : Own (Base S Course) Did) (drives : Drives layout (Install aim image) [] o) where
  -- its slot
  opened : Installs layout drives.base.flash aim image
  opened = subst (λ (c : Course). IsFor c.layout drives.base.flash c.purpose)
      drives.duty drives.made_for.purpose

  abbrev row : Row
  row = opened.opens.begins.row

  row_is : slice_get layout.slots aim.slot ≡ Some row
  row_is = opened.opens.begins.row_is

  abbrev begin : List Move
  begin = begin_moves layout aim probe

  abbrev programs : List Move
  programs = write_moves probe row.offset image

  abbrev announces : List Move
  announces = entry_moves probe layout.otadata (next_rewrite aim)

  session_is : session_moves layout aim probe image
      ≡ begin ++ image_moves probe layout.otadata row (next_rewrite aim) image
  unfolding session_moves
  session_is = ap (λ (found : Option Row). begin ++ in_slot found
      (λ (r : Row). image_moves probe layout.otadata r (next_rewrite aim) image)) row_is

  all_is : all_moves layout aim probe image ≡ begin ++ (programs ++ announces)
  all_is = ap (λ (found : Option Row). begin ++ in_slot found
      (λ (r : Row). write_moves probe r.offset image ++ announces)) row_is

  size_here : slot_size layout aim.slot ≡ row.size
  size_here = ap (λ (found : Option Row). size_or_none found) row_is

  -- the room for the begin
  pub begin_room : HasRoomFor o.base o.core o.share (all_moves layout aim probe image)
      → HasRoomFor o.base o.core o.share begin
  begin_room room = room_front begin (programs ++ announces) o
      (subst (λ (ms : List Move). HasRoomFor o.base o.core o.share ms) all_is room)

  -- it did not begin
  pub not_begun : (refused_so : StepNo) (p : Own (Base S Course) Did)
      → HasRun 0 begin (Err (cause_of refused_so)) o p
      → HasRun 0 (session_moves layout aim probe image) (Err (cause_of refused_so)) o p
  not_begun refused_so p run =
      subst (λ (ms : List Move). HasRun 0 ms (Err (cause_of refused_so)) o p) (sym session_is)
      (run_stops 0 begin (image_moves probe layout.otadata row (next_rewrite aim) image)
      (cause_of refused_so)
      o p run)

  module _ (w : Writing (Base S Course)) (begun : HasBegun layout aim probe o w) where
    target_here : w.target ≡ target_of layout row aim
    target_here = subst (λ (found : Option Row). IfSome found
        (λ (r : Row). w.target ≡ target_of layout r aim)) row_is begun.target

    at_here : w.target.at ≡ row.offset
    at_here = ap (λ (t : Target). t.at) target_here

    pub begun_image : image_of w.core.base ≡ image
    begun_image = ap (λ (b : Option (Base S Course)). image_of b)
        (base_same 0 begin (Ok tt) o w.core begun.ran)
        ∙ image_is layout aim image row row_is [] o drives

    pub begun_long : w.target.length ≡ length image
    begun_long = ap (λ (t : Target). t.length) target_here ∙ sym opened.opens.length_is

    room_here : HasRoomFor o.base o.core o.share (all_moves layout aim probe image)
        → HasRoomFor w.core.base w.core.core w.core.share (programs ++ announces)
    room_here room = room_rest begin (programs ++ announces) o w.core
        (subst (λ (ms : List Move). HasRoomFor o.base o.core o.share ms) all_is room) begun.ran

    pub begun_room : HasRoomFor o.base o.core o.share (all_moves layout aim probe image)
        → HasRoomFor w.core.base w.core.core w.core.share (write_moves probe w.target.at image)
    begun_room room =
        subst (λ (at : ℕ). HasRoomFor w.core.base w.core.core w.core.share
        (write_moves probe at image)) (sym at_here)
        (room_front programs announces w.core (room_here room))

    pub begun_look : CanLook o.base o.regs probe → CanLook w.core.base w.core.regs probe
    begun_look look = look_rest begin (Ok tt) o w.core probe begun.ran look

    -- all moves, where the first byte is not a wrong one, and so much is written
    abbrev closes : List Move
    closes = seal_moves probe
        (record { core = w.core; target = target_of layout row aim; written = length image }) image

    right_moves : (bytes : List ℕ) → wrong_byte 0 bytes ≡ None
        → image_moves probe layout.otadata row (next_rewrite aim) bytes
        ≡ write_moves probe row.offset bytes ++ seal_moves probe
        (record { core = w.core; target = target_of layout row aim; written = length bytes }) bytes
    unfolding wrong_byte
    right_moves [] is = sym (ap (λ (ms : List Move). ms ++ []) (write_nothing probe row.offset))
    right_moves (first ∷ bytes) is = by (first == 0xE9) is
      where
        all : List Move
        all = write_moves probe row.offset (first ∷ bytes)
            ++ closing_moves (bad row.size (first ∷ bytes))
            (read_moves (length (first ∷ bytes))) announces

        by : (mark : Bool) → (if not mark then Some first else None) ≡ None
            → (if mark then all else []) ≡ all
        by true is = refl
        by false is = absurd cc

    session_all : wrong_byte 0 image ≡ None
        → session_moves layout aim probe image ≡ begin ++ (programs ++ closes)
    session_all right =
        session_is ∙ ap (λ (ms : List Move). begin ++ ms) (right_moves image right)

    -- the image is not written to its end
    stopped : (why : NorFault) (p : Own (Base S Course) Did) → wrong_byte 0 image ≡ None
        → HasRun 0 (write_moves probe w.target.at image) (Err why) w.core p
        → HasRun 0 (session_moves layout aim probe image) (Err why) o p
    stopped why p right run =
        subst (λ (ms : List Move). HasRun 0 ms (Err why) o p) (sym (session_all right))
        (run_then 0 begin (programs ++ closes) (Err why) o w.core p begun.ran
        (run_stops 0 programs closes why w.core p
        (subst (λ (at : ℕ). HasRun 0 (write_moves probe at image) (Err why) w.core p) at_here run)))

    pub not_written : (refused_so : WriteNo) (p : Own (Base S Course) Did)
        → IsNotAllWritten probe image w refused_so p
        → HasRun 0 (session_moves layout aim probe image) (ended_as (unwritten_as refused_so)) o p
    not_written (writes.FirstByte byte) p x =
        subst (λ (ms : List Move). HasRun 0 ms (Ok tt) o p)
        (sym (session_is ∙ ap (λ (ms : List Move). begin ++ ms)
        (wrong_none probe layout.otadata row (next_rewrite aim) image byte x.0)))
        (run_then 0 begin [] (Ok tt) o w.core p begun.ran (run_none 0 w.core p
        (subst (λ (z : Own (Base S Course) Did). Keeps w.core z) (sym x.1) (keeps_same w.core))))
    not_written writes.Device p x = stopped _ p x.0 x.1
    not_written writes.Cut p x = stopped _ p x.0 x.1

    pub not_written_end : (refused_so : WriteNo) (p : Own (Base S Course) Did)
        → IsNotAllWritten probe image w refused_so p
        → IfOk (unwritten_as refused_so) (λ end. end ≡ session_end (slot_size layout aim.slot)
        image)
    not_written_end (writes.FirstByte byte) p x =
        wrong_end (slot_size layout aim.slot) image byte x.0
    not_written_end writes.Device p x = tt
    not_written_end writes.Cut p x = tt

    -- it is
    module _ (z : Writing (Base S Course)) (all : HasWrittenAll probe image w z) where
      target_same : z.target ≡ target_of layout row aim
      target_same = all.target ∙ target_here

      image_same : image_of z.core.base ≡ image
      image_same = ap (λ (b : Option (Base S Course)). image_of b)
          (base_same 0 (write_moves probe w.target.at image) (Ok tt) w.core z.core all.ran)
          ∙ begun_image

      pub written_whole : z.written ≡ z.target.length
      written_whole = all.written ∙ sym begun_long
          ∙ ap (λ (t : Target). t.length) (sym all.target)

      pub written_room : HasRoomFor o.base o.core o.share (all_moves layout aim probe image)
          → HasRoomFor z.core.base z.core.core z.core.share
          (entry_moves probe z.target.otadata z.target.next)
      written_room room =
          subst (λ (t : Target). HasRoomFor z.core.base z.core.core z.core.share
          (entry_moves probe t.otadata t.next)) (sym target_same)
          (room_rest programs announces w.core z.core (room_here room)
          (subst (λ (at : ℕ). HasRun 0 (write_moves probe at image) (Ok tt) w.core z.core) at_here
          all.ran))

      pub written_look : CanLook o.base o.regs probe → CanLook z.core.base z.core.regs probe
      written_look look = look_rest (write_moves probe w.target.at image) (Ok tt) w.core z.core
          probe
          all.ran (begun_look look)

      seal_is : seal_moves probe z (image_of z.core.base) ≡ closes
      seal_is = (λ i. seal_moves probe
          (record { core = z.core; target = target_same i; written = all.written i })
          (image_same i))

      pub session_ran : (r : Result (Unit {0}) NorFault) (p : Own (Base S Course) Did)
          → HasRun 0 (seal_moves probe z (image_of z.core.base)) r z.core p
          → HasRun 0 (session_moves layout aim probe image) r o p
      session_ran r p run =
          subst (λ (ms : List Move). HasRun 0 ms r o p) (sym (session_all all.first))
          (run_then 0 begin (programs ++ closes) r o w.core p begun.ran
          (run_then 0 programs closes r w.core z.core p
          (subst (λ (at : ℕ). HasRun 0 (write_moves probe at image) (Ok tt) w.core z.core) at_here
          all.ran)
          (subst (λ (ms : List Move). HasRun 0 ms r z.core p) seal_is run)))

      ends_so : closed_end z.target.size (image_of z.core.base)
          ≡ session_end (slot_size layout aim.slot) image
      ends_so =
          let size : z.target.size ≡ slot_size layout aim.slot =
          ap (λ (t : Target). t.size) target_same ∙ sym size_here in
          (λ i. closed_end (size i) (image_same i))
          ∙ right_end (slot_size layout aim.slot) image all.first

      pub session_ends : (r : Result LegEnd StepNo)
          → IfOk r (λ end. end ≡ closed_end z.target.size (image_of z.core.base))
          → IfOk r (λ end. end ≡ session_end (slot_size layout aim.slot) image)
      session_ends (Ok end) is = is ∙ ends_so
      session_ends (Err why) is = tt

      -- what is counted behind the last byte
      pub session_closes : closed_ops z.target.size (image_of z.core.base)
          ≡ closed_ops (slot_size layout aim.slot) image
      session_closes =
          let size : z.target.size ≡ slot_size layout aim.slot =
          ap (λ (t : Target). t.size) target_same ∙ sym size_here in
          λ i. closed_ops (size i) (image_same i)
