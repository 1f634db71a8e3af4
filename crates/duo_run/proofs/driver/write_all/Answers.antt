-- Each piece goes on where the last one ended, until none is left.
use Rattle.std.proofs.Common.{◌≡◌, ◌≤◌, ◌∙◌, ap, sym, subst, arith, ℕ, Option, length, drop, length-drop}
use Rattle.std.proofs.lemmas.Bool.Decides.{nat_tests}
use Rattle.flash_ops.specs.Asked.{HasRoomFor}
use Rattle.ota_session.specs.SessionTold.{HasWritten, IsNotWritten, piece_moves, piece_periods}
use Rattle.flash_ops.specs.Told.{count_behind}
use Rattle.flash_ops.proofs.Telling.{told_then}
use Rattle.duo_run.specs.Paced.{pieces_of}
use Rattle.duo_run.proofs.PacedLemmas.{piece_counts, pieces_counted, uncounted}
use Rattle.duo_run.proofs.WriteAllLemmas.{round_done, round_first, round_next, round_period, round_refused, round_room, up_to_all, up_within}
use Rattle.duo_run.proofs.driver.write_all.Goals as goal

-- the next piece
pub write-requires-clause-next : goal.write-requires-clause-next
write-requires-clause-next g c =
    let rest = c.loop-rest.rest.now in
    let some : 1 ≤ length rest =
    grind (arith, nat_tests, c.is_empty.ensures, c.loop-rest-test.true) in
    round_next c.args.beat.now.probe c.args.image.now c.args.ota c.loop-rest.ota rest
    c.split_at_most.result.0.now c.split_at_most.result.1.now c.loop-rest.invariant.up
    c.requires.nothing c.requires.long c.split_at_most.ensures.first c.split_at_most.ensures.rest
    some

pub write-requires-clause-room : goal.write-requires-clause-room
write-requires-clause-room g c =
    let w = c.loop-rest.ota in
    let rest = c.loop-rest.rest.now in
    let piece = c.split_at_most.result.0.now in
    let some : 1 ≤ length rest =
    grind (arith, nat_tests, c.is_empty.ensures, c.loop-rest-test.true) in
    subst (λ (p : Option ℕ). HasRoomFor w.core.base w.core.core w.core.share
    (piece_moves p w piece)) (sym c.loop-rest.invariant.probe)
    (round_room c.args.beat.now.probe c.args.image.now c.args.ota w rest piece
    c.split_at_most.result.1.now c.loop-rest.invariant.up c.requires.nothing c.requires.long
    c.split_at_most.ensures.first c.split_at_most.ensures.rest some)

-- it is refused
pub returns-in-Err-clause-err : goal.returns-in-Err-clause-err
returns-in-Err-clause-err g c =
    let w = c.loop-rest.ota in
    let rest = c.loop-rest.rest.now in
    let piece = c.split_at_most.result.0.now in
    let some : 1 ≤ length rest =
    grind (arith, nat_tests, c.is_empty.ensures, c.loop-rest-test.true) in
    round_refused c.args.beat.now.probe c.args.image.now c.args.ota w rest piece
    c.split_at_most.result.1.now c.loop-rest.invariant.up c.requires.nothing c.requires.long
    c.split_at_most.ensures.first c.split_at_most.ensures.rest some c.in-Err.back.no
    c.in-Err.back.core
    (subst (λ (p : Option ℕ). IsNotWritten p piece w c.in-Err.back.no c.in-Err.back.core)
    c.loop-rest.invariant.probe c.in-Err.ensures.err)

-- before anything was counted, or as far as that
pub returns-in-Err-clause-ops : goal.returns-in-Err-clause-ops
returns-in-Err-clause-ops g c =
    let w = c.loop-rest.ota in
    let rest = c.loop-rest.rest.now in
    let piece = c.split_at_most.result.0.now in
    let some : 1 ≤ length rest =
    grind (arith, nat_tests, c.is_empty.ensures, c.loop-rest-test.true) in
    uncounted (piece_periods w piece) c.args.beat.now.ops c.loop-rest.beat.ops
    c.write.new.beat.ops c.in-Err.back.no
    (λ byte is. c.loop-rest.invariant.none
    (round_first c.args.beat.now.probe c.args.image.now c.args.ota w rest piece
    c.split_at_most.result.1.now c.loop-rest.invariant.up c.requires.nothing c.requires.long
    c.split_at_most.ensures.first c.split_at_most.ensures.rest some c.in-Err.back.no
    c.in-Err.back.core
    (subst (λ (p : Option ℕ). IsNotWritten p piece w c.in-Err.back.no c.in-Err.back.core)
    c.loop-rest.invariant.probe c.in-Err.ensures.err) byte is))
    c.in-Err.ensures.ops

pub returns-in-Err-clause-told : goal.returns-in-Err-clause-told
returns-in-Err-clause-told g c =
    let inv = c.loop-rest.invariant in
    told_then (λ p. g.P.Pace.told p.now) c.args.beat.now.pace c.loop-rest.beat.pace
    c.args.beat.now.ops c.loop-rest.beat.ops c.write.new.beat.ops inv.pace inv.told
    c.write.ensures.told

-- fewer bytes are left
pub loop-rest-smaller : goal.loop-rest-smaller
loop-rest-smaller g c =
    let rest = c.loop-rest.rest.now in
    let later = c.split_at_most.result.1.now in
    let some : 1 ≤ length rest =
    grind (arith, nat_tests, c.is_empty.ensures, c.loop-rest-test.true) in
    let e : length later ≡ length (drop 4096 rest) = ap length c.split_at_most.ensures.rest in
    let f = length-drop 4096 rest in omega arith

-- it is written
pub loop-rest-preserved : goal.loop-rest-preserved
loop-rest-preserved g c =
    let inv = c.loop-rest.invariant in
    let w = c.loop-rest.ota in
    let rest = c.loop-rest.rest.now in
    let piece = c.split_at_most.result.0.now in
    let some : 1 ≤ length rest =
    grind (arith, nat_tests, c.is_empty.ensures, c.loop-rest-test.true) in
    record {
      up = round_done c.args.beat.now.probe c.args.image.now c.args.ota w rest piece
          c.split_at_most.result.1.now inv.up c.requires.nothing c.requires.long
          c.split_at_most.ensures.first c.split_at_most.ensures.rest some c.in-Ok.next
          (subst (λ (p : Option ℕ). HasWritten p piece w c.in-Ok.next) inv.probe
          c.in-Ok.ensures.ok);
      probe = c.write.ensures.probe ∙ inv.probe;
      pace = c.write.ensures.pace ∙ inv.pace;
      ops = piece_counts c.loop-rest.beat.ops c.write.new.beat.ops
          (count_behind c.args.beat.now.ops (pieces_of (length c.args.image.now))) rest
          c.split_at_most.result.1.now (piece_periods w piece) c.split_at_most.ensures.rest some
          (round_period c.args.beat.now.probe c.args.image.now c.args.ota w rest piece
          c.split_at_most.result.1.now inv.up c.requires.nothing c.requires.long
          c.split_at_most.ensures.first c.split_at_most.ensures.rest some)
          c.in-Ok.ensures.ops inv.ops;
      none = λ same.
          let e : length c.split_at_most.result.1.now ≡ length (drop 4096 rest) =
          ap length c.split_at_most.ensures.rest in
          let f = length-drop 4096 rest in
          let up = up_within c.args.beat.now.probe c.args.image.now c.args.ota w rest inv.up in
          absurd (omega arith);
      told = told_then (λ p. g.P.Pace.told p.now) c.args.beat.now.pace c.loop-rest.beat.pace
          c.args.beat.now.ops c.loop-rest.beat.ops c.write.new.beat.ops inv.pace inv.told
          c.write.ensures.told;
    }

-- all is written
pub returns-clause-ok : goal.returns-clause-ok
returns-clause-ok g c =
    let rest = c.loop-rest.rest.now in
    let gone : length rest ≡ 0 =
    grind (arith, nat_tests, c.is_empty.ensures, c.loop-rest-test.false) in
    up_to_all c.args.beat.now.probe c.args.image.now c.args.ota c.loop-rest.ota rest
    c.loop-rest.invariant.up c.requires.nothing gone

-- each piece was counted
pub returns-clause-ops : goal.returns-clause-ops
returns-clause-ops g c =
    let rest = c.loop-rest.rest.now in
    let gone : length rest ≡ 0 =
    grind (arith, nat_tests, c.is_empty.ensures, c.loop-rest-test.false) in
    pieces_counted c.loop-rest.beat.ops
    (count_behind c.args.beat.now.ops (pieces_of (length c.args.image.now))) rest gone
    c.loop-rest.invariant.ops
