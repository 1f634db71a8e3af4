-- Each stage of a session goes on where the last one ended.
use Rattle.std.proofs.Common.{◌∙◌, sym, subst, ℕ, Option}
use Rattle.flash_ops.specs.Asked.{CanLook, HasRoomFor}
use Rattle.flash_ops.specs.Moves.{HasRun, write_moves}
use Rattle.ota_session.specs.Stages.{entry_moves, image_of}
use Rattle.duo_run.specs.Driving.{HasWrittenAll, IsNotAllWritten, ended_as, seal_moves}
use Rattle.duo_run.proofs.DrivingLemmas.{begun_look, begun_room, not_written, not_written_end, session_closes, session_ends, session_ran, written_look, written_room}
use Rattle.flash_ops.proofs.Telling.{told_then}
use Rattle.duo_run.specs.Paced.{closed_ops}
use Rattle.duo_run.proofs.PacedLemmas.{session_counts, unwritten_ops}
use Rattle.duo_run.proofs.driver.install.Goals as goal

-- room for the programs, and for a look behind them
pub write_all-requires-clause-room : goal.write_all-requires-clause-room
write_all-requires-clause-room g c =
    let w = c.in-Ok.ota in
    subst (λ (p : Option ℕ). HasRoomFor w.core.base w.core.core w.core.share
    (write_moves p w.target.at c.args.image.now)) (sym c.begin.ensures.probe)
    (begun_room c.args.layout.now c.args.aim.now c.args.image.now c.args.beat.now.probe
    c.args.core c.requires.session w c.in-Ok.ensures.ok c.requires.room)

pub write_all-requires-clause-look : goal.write_all-requires-clause-look
write_all-requires-clause-look g c =
    let w = c.in-Ok.ota in
    subst (λ (p : Option ℕ). CanLook w.core.base w.core.regs p) (sym c.begin.ensures.probe)
    (begun_look c.args.layout.now c.args.aim.now c.args.image.now c.args.beat.now.probe
    c.args.core c.requires.session w c.in-Ok.ensures.ok c.requires.look)

-- room for the entry
pub seal-requires-clause-room : goal.seal-requires-clause-room
seal-requires-clause-room g c =
    let w = c.in-Ok.ota in
    let z = c.in-Ok-write_all.ota in
    subst (λ (p : Option ℕ). HasRoomFor z.core.base z.core.core z.core.share
    (entry_moves p z.target.otadata z.target.next))
    (sym (c.write_all.ensures.probe ∙ c.begin.ensures.probe))
    (written_room c.args.layout.now c.args.aim.now c.args.image.now c.args.beat.now.probe
    c.args.core c.requires.session w c.in-Ok.ensures.ok z
    (subst (λ (p : Option ℕ). HasWrittenAll p c.args.image.now w z) c.begin.ensures.probe
    c.in-Ok-write_all.ensures.ok) c.requires.room)

pub seal-requires-clause-look : goal.seal-requires-clause-look
seal-requires-clause-look g c =
    let w = c.in-Ok.ota in
    let z = c.in-Ok-write_all.ota in
    subst (λ (p : Option ℕ). CanLook z.core.base z.core.regs p)
    (sym (c.write_all.ensures.probe ∙ c.begin.ensures.probe))
    (written_look c.args.layout.now c.args.aim.now c.args.image.now c.args.beat.now.probe
    c.args.core c.requires.session w c.in-Ok.ensures.ok z
    (subst (λ (p : Option ℕ). HasWrittenAll p c.args.image.now w z) c.begin.ensures.probe
    c.in-Ok-write_all.ensures.ok) c.requires.look)

-- the image is not written to its end
pub returns-in-Err-write_all-clause-ran : goal.returns-in-Err-write_all-clause-ran
returns-in-Err-write_all-clause-ran g c =
    let w = c.in-Ok.ota in
    let back = c.in-Err-write_all.back in
    rw c.unwritten.ensures.exact
    (not_written c.args.layout.now c.args.aim.now c.args.image.now c.args.beat.now.probe
    c.args.core c.requires.session w c.in-Ok.ensures.ok back.no back.core
    (subst (λ (p : Option ℕ). IsNotAllWritten p c.args.image.now w back.no back.core)
    c.begin.ensures.probe c.in-Err-write_all.ensures.err))

pub returns-in-Err-write_all-clause-end : goal.returns-in-Err-write_all-clause-end
returns-in-Err-write_all-clause-end g c =
    let w = c.in-Ok.ota in
    let back = c.in-Err-write_all.back in
    rw c.unwritten.ensures.exact
    (not_written_end c.args.layout.now c.args.aim.now c.args.image.now c.args.beat.now.probe
    c.args.core c.requires.session w c.in-Ok.ensures.ok back.no back.core
    (subst (λ (p : Option ℕ). IsNotAllWritten p c.args.image.now w back.no back.core)
    c.begin.ensures.probe c.in-Err-write_all.ensures.err))

-- it is
pub returns-in-Ok-write_all-clause-ran : goal.returns-in-Ok-write_all-clause-ran
returns-in-Ok-write_all-clause-ran g c =
    let w = c.in-Ok.ota in
    let z = c.in-Ok-write_all.ota in
    session_ran c.args.layout.now c.args.aim.now c.args.image.now c.args.beat.now.probe c.args.core
    c.requires.session w c.in-Ok.ensures.ok z
    (subst (λ (p : Option ℕ). HasWrittenAll p c.args.image.now w z) c.begin.ensures.probe
    c.in-Ok-write_all.ensures.ok) (ended_as c.seal.result.1) c.seal.result.0
    (subst (λ (p : Option ℕ). HasRun 0 (seal_moves p z (image_of z.core.base))
    (ended_as c.seal.result.1) z.core c.seal.result.0)
    (c.write_all.ensures.probe ∙ c.begin.ensures.probe) c.seal.ensures.ran)

pub returns-in-Ok-write_all-clause-end : goal.returns-in-Ok-write_all-clause-end
returns-in-Ok-write_all-clause-end g c =
    let w = c.in-Ok.ota in
    let z = c.in-Ok-write_all.ota in
    session_ends c.args.layout.now c.args.aim.now c.args.image.now c.args.beat.now.probe
    c.args.core c.requires.session w c.in-Ok.ensures.ok z
    (subst (λ (p : Option ℕ). HasWrittenAll p c.args.image.now w z) c.begin.ensures.probe
    c.in-Ok-write_all.ensures.ok) c.seal.result.1 c.seal.ensures.end

-- what was counted: the begin, and nothing of an image whose first byte is wrong
pub returns-in-Err-write_all-clause-ops : goal.returns-in-Err-write_all-clause-ops
returns-in-Err-write_all-clause-ops g c =
    let w = c.in-Ok.ota in
    let back = c.in-Err-write_all.back in
    rw c.unwritten.ensures.exact
    (unwritten_ops c.args.layout.now c.args.aim.now c.args.image.now c.args.beat.now.probe w back.no
    back.core c.args.beat.now.ops c.begin.new.beat.ops c.write_all.new.beat.ops
    c.in-Ok.ensures.ops
    (subst (λ (p : Option ℕ). IsNotAllWritten p c.args.image.now w back.no back.core)
    c.begin.ensures.probe c.in-Err-write_all.ensures.err) c.in-Err-write_all.ensures.ops)

-- or all of them
pub returns-in-Ok-write_all-clause-ops : goal.returns-in-Ok-write_all-clause-ops
returns-in-Ok-write_all-clause-ops g c =
    let w = c.in-Ok.ota in
    let z = c.in-Ok-write_all.ota in
    let all = subst (λ (p : Option ℕ). HasWrittenAll p c.args.image.now w z) c.begin.ensures.probe
    c.in-Ok-write_all.ensures.ok in
    session_counts c.args.layout.now c.args.aim.now c.args.image.now c.args.beat.now.ops
    c.begin.new.beat.ops c.write_all.new.beat.ops c.seal.new.beat.ops
    (closed_ops z.target.size (image_of z.core.base)) c.seal.result.1 all.first
    c.in-Ok.ensures.ops c.in-Ok-write_all.ensures.ops
    (session_closes c.args.layout.now c.args.aim.now c.args.image.now c.args.beat.now.probe
    c.args.core c.requires.session w c.in-Ok.ensures.ok z all)
    c.seal.ensures.ops

-- and told
pub returns-in-Err-write_all-clause-told : goal.returns-in-Err-write_all-clause-told
returns-in-Err-write_all-clause-told g c =
    told_then (λ p. g.P.Pace.told p.now) c.args.beat.now.pace c.begin.new.beat.pace
    c.args.beat.now.ops c.begin.new.beat.ops c.write_all.new.beat.ops c.begin.ensures.pace
    c.begin.ensures.told c.write_all.ensures.told

pub returns-in-Ok-write_all-clause-told : goal.returns-in-Ok-write_all-clause-told
returns-in-Ok-write_all-clause-told g c =
    told_then (λ p. g.P.Pace.told p.now) c.args.beat.now.pace c.write_all.new.beat.pace
    c.args.beat.now.ops c.write_all.new.beat.ops c.seal.new.beat.ops
    (c.write_all.ensures.pace ∙ c.begin.ensures.pace)
    (told_then (λ p. g.P.Pace.told p.now) c.args.beat.now.pace c.begin.new.beat.pace
    c.args.beat.now.ops c.begin.new.beat.ops c.write_all.new.beat.ops c.begin.ensures.pace
    c.begin.ensures.told c.write_all.ensures.told)
    c.seal.ensures.told
