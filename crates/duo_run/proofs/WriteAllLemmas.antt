-- An image is written piece by piece.
use Rattle.std.proofs.Common.{◌≡◌, ◌⊎◌, inl, inr, ℕ, ◌+◌, ◌%◌, ◌≤◌, Bool, false, List, [], ◌∷◌, ◌++◌, length, take, drop, Option, Some, None, Ok, Err, refl, sym, ap, ◌∙◌, subst, arith, append-nil, length-take, length-drop}
use Rattle.std.specs.Prelude.{◌==◌, ◌&&◌, not, if◌then◌else◌}
use Rattle.std.proofs.lemmas.Bool.{cases_lt}
use Rattle.std.proofs.lemmas.Bool.Decides.{nat_tests}
use Rattle.std.proofs.lemmas.List.{drop-drop, take-append-drop, take_all}
use Rattle.std.proofs.Math.ListN.{drop_of_length-le}
use Rattle.nor_device.specs.declared.nor.NorFault.{NorFault}
use Rattle.bus_hub.specs.declared.did.Base.{Base}
use Rattle.bus_hub.specs.declared.did.Did.{Did}
use Rattle.cache_gate.specs.Own.{Own}
use Rattle.flash_ops.specs.Asked.{CanLook, HasRoomFor}
use Rattle.flash_ops.specs.Moves.{HasRun, Move, write_moves}
use Rattle.flash_ops.proofs.Pieces.{write_nothing, write_pieces}
use Rattle.flash_ops.proofs.Runs.{Left, base_same, left_all, left_none, left_stops, left_then}
use Rattle.ota_session.specs.declared.refusal.WriteNo.{WriteNo}
use Rattle.ota_session.specs.declared.refusal.WriteNo.TheVariants as writes
use Rattle.ota_session.specs.declared.target.Target.{Target}
use Rattle.ota_session.specs.Course.{Course}
use Rattle.ota_session.specs.SessionTold.{HasWritten, IsNotWritten, piece_moves, piece_periods, wrong_byte}
use Rattle.ota_session.specs.Stages.{IsNextPiece, IsWriting, Writing, image_of}
use Rattle.ota_session.proofs.CountLemmas.{piece_periods as one_piece}
use Rattle.ota_session.proofs.StageLemmas.{slot}
use Rattle.duo_run.specs.Driving.{HasWrittenAll, IsNotAllWritten}
use Rattle.duo_run.proofs.DrivingLemmas.{look_rest, room_front, room_rest}

-- ---- the first byte

wrong_first : (image piece : List ℕ) → piece ≡ take 4096 image
    → wrong_byte 0 piece ≡ wrong_byte 0 image
unfolding wrong_byte
wrong_first [] piece is = ap (λ (l : List ℕ). wrong_byte 0 l) is
wrong_first (byte ∷ bytes) piece is = ap (λ (l : List ℕ). wrong_byte 0 l) is

wrong_later : (n : ℕ) (piece : List ℕ) → 1 ≤ n → wrong_byte n piece ≡ None
unfolding wrong_byte
wrong_later n [] some = refl
wrong_later n (byte ∷ bytes) some =
    let later : (n == 0) ≡ false = grind (arith, nat_tests) in
    ap (λ (b : Bool). if b && not (byte == 0xE9) then Some byte else None) later

no_wrong : wrong_byte 0 [] ≡ None
unfolding wrong_byte
no_wrong = refl

-- ---- pieces

-- at most so many bytes of those that are left, and the others
record IsCut (rest piece later : List ℕ) : Type 0 where
  front : piece ≡ take 4096 rest
  back : later ≡ drop 4096 rest
  some : 1 ≤ length rest

-- a whole piece, or the last one
record IsFull (rest piece later : List ℕ) : Type 0 where
  long : length piece ≡ 4096
  more : 4096 ≤ length rest

record IsLast (rest piece later : List ℕ) : Type 0 where
  all : piece ≡ rest
  none : later ≡ []

cut_cases : (rest piece later : List ℕ) → IsCut rest piece later
    → IsFull rest piece later ⊎ IsLast rest piece later
cut_cases rest piece later cut = elim (cases_lt 4096 (length rest)) [
  | inl more ↦
      let size : length piece ≡ length (take 4096 rest) = ap length cut.front in
      let taken = length-take 4096 rest in
      inl (record { long = omega arith; more = omega arith })
  | inr few ↦ inr (record {
    all = cut.front ∙ take_all 4096 rest few;
    none = cut.back ∙ drop_of_length-le rest few;
  })
]

together : (rest piece later : List ℕ) → IsCut rest piece later → piece ++ later ≡ rest
together rest piece later cut =
    (λ i. cut.front i ++ cut.back i) ∙ take-append-drop 4096 rest

module _ {S : Type 0} (probe : Option ℕ) (image : List ℕ) (first : Writing (Base S Course)) where
  abbrev at : ℕ
  at = first.target.at

  abbrev whole : List Move
  whole = write_moves probe at image

  -- the image is written up to here, and this is left of it
  pub record IsUpTo (w : Writing (Base S Course)) (rest : List ℕ) : Type 0 where
    pub writing : IsWriting w
    pub target : w.target ≡ first.target
    pub image_is : image_of w.core.base ≡ image
    pub rest_is : rest ≡ drop w.written image
    pub within : w.written ≤ length image
    pub paged : (w.written % 4096 ≡ 0) ⊎ (rest ≡ [])
    pub begun : (w ≡ first) ⊎ ((1 ≤ w.written) × (wrong_byte 0 image ≡ None))
    pub left : Left 0 whole (write_moves probe (at + w.written) rest) first.core w.core
    pub room : HasRoomFor w.core.base w.core.core w.core.share
        (write_moves probe (at + w.written) rest)
    pub look : CanLook w.core.base w.core.regs probe

  -- nothing is written
  pub up_to_none : IsWriting first → first.written ≡ 0 → image_of first.core.base ≡ image
      → HasRoomFor first.core.base first.core.core first.core.share whole
      → CanLook first.core.base first.core.regs probe → IsUpTo first image
  up_to_none writing none same room look =
      let place : at ≡ at + first.written = omega arith in
      let moves : whole ≡ write_moves probe (at + first.written) image =
      ap (λ (n : ℕ). write_moves probe n image) place in
      record {
        writing = writing;
        target = refl;
        image_is = same;
        rest_is = ap (λ (n : ℕ). drop n image) (sym none);
        within = omega arith;
        paged = inl (ap (λ (n : ℕ). n % 4096) none);
        begun = inl refl;
        left = left_all 0 whole (write_moves probe (at + first.written) image) first.core moves;
        room = subst (λ (ms : List Move).
            HasRoomFor first.core.base first.core.core first.core.share ms) moves room;
        look = look;
      }

  module _ (w : Writing (Base S Course)) (rest piece later : List ℕ) (up : IsUpTo w rest)
      (none : first.written ≡ 0) (long : first.target.length ≡ length image)
      (cut : IsCut rest piece later) where
    abbrev len : ℕ
    len = length piece

    rest_long : length rest + w.written ≡ length image
    rest_long =
        let e : length rest ≡ length (drop w.written image) = ap length up.rest_is in
        let f = length-drop w.written image in
        let within = up.within in omega arith

    target_at : w.target.at ≡ at
    target_at = ap (λ (t : Target). t.at) up.target

    target_long : w.target.length ≡ length image
    target_long = ap (λ (t : Target). t.length) up.target ∙ long

    aligned : at % 4096 ≡ 0
    aligned =
        let v = up.writing in
        let lies = slot v.layout v.aim v.image v.row v.row_is _ w.core v.drives in
        let begins = lies.begins in
        let same : w.target.at ≡ v.row.offset = ap (λ (t : Target). t.at) v.target_is in
        let here = target_at in omega arith

    whole_sectors : w.written % 4096 ≡ 0
    whole_sectors = elim up.paged [
      | inl paged ↦ paged
      | inr gone ↦
          let refused_so : length rest ≡ 0 = ap length gone in
          let some = cut.some in absurd (omega arith)
    ]

    -- the moves of what is left: those of the piece, and those of the rest behind it
    cut_moves : write_moves probe (at + w.written) rest
        ≡ write_moves probe (at + w.written) piece
        ++ write_moves probe (at + (w.written + len)) later
    cut_moves = elim (cut_cases rest piece later cut) [
      | inl full ↦
          let size = full.long in
          let begins = aligned in
          let paged = whole_sectors in
          let place : at + w.written + len ≡ at + (w.written + len) = omega arith in
          ap (λ (l : List ℕ). write_moves probe (at + w.written) l)
          (sym (together rest piece later cut))
          ∙ write_pieces probe (at + w.written) piece later (omega arith) (omega arith)
          ∙ ap (λ (n : ℕ). write_moves probe (at + w.written) piece ++ write_moves probe n later)
          place
      | inr last ↦
          ap (λ (l : List ℕ). write_moves probe (at + w.written) l) (sym last.all)
          ∙ sym (append-nil (write_moves probe (at + w.written) piece))
          ∙ ap (λ (ms : List Move). write_moves probe (at + w.written) piece ++ ms)
          (sym (ap (λ (l : List ℕ). write_moves probe (at + (w.written + len)) l) last.none
          ∙ write_nothing probe (at + (w.written + len))))
    ]

    piece_is : piece_moves probe w piece ≡ write_moves probe (at + w.written) piece
    piece_is = ap (λ (n : ℕ). write_moves probe (n + w.written) piece) target_at

    -- it is the next piece
    next_piece : IsNextPiece w piece
    next_piece =
        let total = rest_long in
        let aim = target_long in
        let some = cut.some in
        let from : drop w.written (image_of w.core.base) ≡ rest =
        ap (λ (l : List ℕ). drop w.written l) up.image_is ∙ sym up.rest_is in
        elim (cut_cases rest piece later cut) [
          | inl full ↦
              let size = full.long in
              let more = full.more in
              record {
                some = omega arith;
                left = omega arith;
                paged = inl (ap (λ (n : ℕ). n % 256) size);
                next = cut.front ∙ ap (λ (n : ℕ). take n rest) (sym size)
                    ∙ ap (λ (l : List ℕ). take len l) (sym from);
              }
          | inr last ↦
              let size : len ≡ length rest = ap length last.all in
              record {
                some = omega arith;
                left = omega arith;
                paged = inr (omega arith);
                next = last.all ∙ sym (take_all len rest (omega arith))
                    ∙ ap (λ (l : List ℕ). take len l) (sym from);
              }
        ]

    -- there is room for it
    piece_room : HasRoomFor w.core.base w.core.core w.core.share (piece_moves probe w piece)
    piece_room =
        subst (λ (ms : List Move). HasRoomFor w.core.base w.core.core w.core.share ms)
        (sym piece_is)
        (room_front (write_moves probe (at + w.written) piece)
        (write_moves probe (at + (w.written + len)) later) w.core
        (subst (λ (ms : List Move). HasRoomFor w.core.base w.core.core w.core.share ms) cut_moves
        up.room))

    -- it has one quiet period
    one_period : piece_periods w piece ≡ 1
    one_period =
        let begins = aligned in
        let paged = whole_sectors in
        let place = target_at in
        let some = next_piece.some in
        let size : length piece ≡ length (take 4096 rest) = ap length cut.front in
        let most = length-take 4096 rest in
        one_piece (w.target.at + w.written) piece (omega arith) some (omega arith)

    -- a wrong first byte is that of the image
    wrong_is_first : (byte : ℕ) → wrong_byte w.written piece ≡ Some byte
        → length rest ≡ length image
    wrong_is_first byte is = elim up.begun [
      | inl same ↦
          let zero_is : w.written ≡ 0 = ap (λ (z : Writing (Base S Course)). z.written) same ∙ none
          in
          ap length (up.rest_is ∙ ap (λ (n : ℕ). drop n image) zero_is)
      | inr later ↦
          let refused_so : None ≡ Some byte = sym (wrong_later w.written piece later.0) ∙ is in
          absurd cc
    ]

    -- the first byte is not a wrong one
    right : wrong_byte w.written piece ≡ None → wrong_byte 0 image ≡ None
    right is = elim up.begun [
      | inl same ↦
          let zero_is : w.written ≡ 0 = ap (λ (z : Writing (Base S Course)). z.written) same ∙ none
          in
          let all : rest ≡ image = up.rest_is ∙ ap (λ (n : ℕ). drop n image) zero_is in
          sym (wrong_first image piece (cut.front ∙ ap (λ (l : List ℕ). take 4096 l) all))
          ∙ ap (λ (n : ℕ). wrong_byte n piece) (sym zero_is) ∙ is
      | inr later ↦ later.1
    ]

    -- behind the piece
    piece_written : (z : Writing (Base S Course)) → HasWritten probe piece w z → IsUpTo z later
    piece_written z x =
        let total = rest_long in
        let some = cut.some in
        let run : HasRun 0 (write_moves probe (at + w.written) piece) (Ok tt) w.core z.core =
        subst (λ (ms : List Move). HasRun 0 ms (Ok tt) w.core z.core) piece_is x.ran in
        let next = next_piece in
        let more = next.some in
        let left = next.left in
        let aim = target_long in
        let now = x.written in
        record {
          writing = x.writing;
          target = x.target ∙ up.target;
          image_is = ap (λ (b : Option (Base S Course)). image_of b)
              (base_same 0 (piece_moves probe w piece) (Ok tt) w.core z.core x.ran) ∙ up.image_is;
          rest_is = later_is ∙ ap (λ (n : ℕ). drop n image) (sym x.written);
          within = omega arith;
          paged = elim (cut_cases rest piece later cut) [
            | inl full ↦
                let size = full.long in
                let paged = whole_sectors in inl (omega arith)
            | inr last ↦ inr last.none
          ];
          begun = inr (omega arith, right x.first);
          left = subst (λ (n : ℕ). Left 0 whole (write_moves probe (at + n) later) first.core
              z.core)
              (sym x.written)
              (left_then 0 whole (write_moves probe (at + w.written) rest)
              (write_moves probe (at + w.written) piece)
              (write_moves probe (at + (w.written + len)) later) first.core w.core z.core cut_moves
              up.left run);
          room = subst (λ (n : ℕ). HasRoomFor z.core.base z.core.core z.core.share
              (write_moves probe (at + n) later)) (sym x.written)
              (room_rest (write_moves probe (at + w.written) piece)
              (write_moves probe (at + (w.written + len)) later) w.core z.core
              (subst (λ (ms : List Move). HasRoomFor w.core.base w.core.core w.core.share ms)
              cut_moves up.room) run);
          look = look_rest (piece_moves probe w piece) (Ok tt) w.core z.core probe x.ran up.look;
        }
      where
        later_is : later ≡ drop (w.written + len) image
        later_is = elim (cut_cases rest piece later cut) [
          | inl full ↦
              cut.back ∙ ap (λ (n : ℕ). drop n rest) (sym full.long)
              ∙ ap (λ (l : List ℕ). drop len l) up.rest_is ∙ drop-drop len w.written image
          | inr last ↦
              let size : len ≡ length rest = ap length last.all in
              let total = rest_long in
              last.none ∙ sym (drop_of_length-le image (omega arith))
        ]

    stops : (why : NorFault) (o : Own (Base S Course) Did)
        → HasRun 0 (piece_moves probe w piece) (Err why) w.core o
        → HasRun 0 whole (Err why) first.core o
    stops why o run =
        left_stops 0 whole (write_moves probe (at + w.written) rest)
        (write_moves probe (at + w.written) piece)
        (write_moves probe (at + (w.written + len)) later) why first.core w.core o cut_moves up.left
        (subst (λ (ms : List Move). HasRun 0 ms (Err why) w.core o) piece_is run)

    -- the piece is refused
    piece_refused : (refused_so : WriteNo) (o : Own (Base S Course) Did) → IsNotWritten probe piece
        w refused_so o
        → IsNotAllWritten probe image first refused_so o
    piece_refused (writes.FirstByte byte) o x = elim up.begun [
      | inl same ↦
          let zero_is : w.written ≡ 0 = ap (λ (z : Writing (Base S Course)). z.written) same ∙ none
          in
          let all : rest ≡ image = up.rest_is ∙ ap (λ (n : ℕ). drop n image) zero_is in (
            sym (wrong_first image piece (cut.front ∙ ap (λ (l : List ℕ). take 4096 l) all))
                ∙ ap (λ (n : ℕ). wrong_byte n piece) (sym zero_is) ∙ x.0,
            x.1 ∙ ap (λ (z : Writing (Base S Course)). z.core) same,
          )
      | inr later ↦
          let refused_so : None ≡ Some byte = sym (wrong_later w.written piece later.0) ∙ x.0 in
          absurd cc
    ]
    piece_refused writes.Device o x = (right x.0, stops _ o x.1)
    piece_refused writes.Cut o x = (right x.0, stops _ o x.1)

  -- no more is left than the image has
  pub up_within : (w : Writing (Base S Course)) (rest : List ℕ) → IsUpTo w rest
      → length rest ≤ length image
  up_within w rest up =
      let e : length rest ≡ length (drop w.written image) = ap length up.rest_is in
      let f = length-drop w.written image in omega arith

  -- all is written
  pub up_to_all : (w : Writing (Base S Course)) (rest : List ℕ) → IsUpTo w rest
      → first.written ≡ 0 → length rest ≡ 0 → HasWrittenAll probe image first w
  up_to_all w rest up none gone =
      let empty : rest ≡ [] = no_bytes rest gone in
      let e : length rest ≡ length (drop w.written image) = ap length up.rest_is in
      let f = length-drop w.written image in
      let within = up.within in
      record {
        first = elim up.begun [
          | inl same ↦
              let zero_is : w.written ≡ 0 =
              ap (λ (z : Writing (Base S Course)). z.written) same ∙ none in
              let all : image ≡ [] =
              sym (up.rest_is ∙ ap (λ (n : ℕ). drop n image) zero_is) ∙ empty in
              ap (λ (l : List ℕ). wrong_byte 0 l) all ∙ no_wrong
          | inr later ↦ later.1
        ];
        ran = left_none 0 whole (write_moves probe (at + w.written) rest) first.core w.core
            (ap (λ (l : List ℕ). write_moves probe (at + w.written) l) empty
            ∙ write_nothing probe (at + w.written)) up.left;
        target = up.target;
        written = omega arith;
        writing = up.writing;
      }
    where
      no_bytes : (bytes : List ℕ) → length bytes ≡ 0 → bytes ≡ []
      no_bytes [] is = refl
      no_bytes (byte ∷ bytes) is = absurd (omega arith)

  -- the calls of a round
  module _ (w : Writing (Base S Course)) (rest piece later : List ℕ) (up : IsUpTo w rest)
      (none : first.written ≡ 0) (long : first.target.length ≡ length image)
      (front : piece ≡ take 4096 rest) (back : later ≡ drop 4096 rest) (some : 1 ≤ length rest)
    where
      abbrev cut : IsCut rest piece later
      cut = record { front = front; back = back; some = some }

      pub round_next : IsNextPiece w piece
      round_next = next_piece w rest piece later up none long cut

      pub round_room : HasRoomFor w.core.base w.core.core w.core.share (piece_moves probe w piece)
      round_room = piece_room w rest piece later up none long cut

      pub round_done : (z : Writing (Base S Course)) → HasWritten probe piece w z → IsUpTo z later
      round_done z x = piece_written w rest piece later up none long cut z x

      pub round_refused : (refused_so : WriteNo) (o : Own (Base S Course) Did)
          → IsNotWritten probe piece w refused_so o → IsNotAllWritten probe image first refused_so o
      round_refused refused_so o x = piece_refused w rest piece later up none long cut refused_so o
          x

      pub round_period : piece_periods w piece ≡ 1
      round_period = one_period w rest piece later up none long cut

      pub round_first : (refused_so : WriteNo) (o : Own (Base S Course) Did)
          → IsNotWritten probe piece w refused_so o → (byte : ℕ)
          → refused_so ≡ writes.FirstByte byte → length rest ≡ length image
      round_first refused_so o x byte is =
          wrong_is_first w rest piece later up none long cut byte
          (subst (λ (z : WriteNo). IsNotWritten probe piece w z o) is x).0
