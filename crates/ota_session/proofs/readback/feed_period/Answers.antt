-- The read lies in the slot, and what it gives are the next bytes of the image.
use Rattle.std.proofs.Common.{◌++◌, ℕ, List, Result, length, subst, arith}
use Rattle.image_verify.specs.Fed.{HasRead}
use Rattle.flash_ops.specs.declared.refusal.StepNo.{StepNo}
use Rattle.flash_ops.specs.Moves.{HasRun, read_moves}
use Rattle.flash_ops.specs.Told.{fault_of}
use Rattle.flash_ops.specs.Periods.{HasPeriod, HasPeriods, read_periods}
use Rattle.ota_session.proofs.ReadBackLemmas.{fed_image, inside_slot, one_read, small_slot}
use Rattle.ota_session.proofs.readback.feed_period.Goals as goal

pub overflow_add-target : goal.overflow_add-target
overflow_add-target g c =
    let small = small_slot c.args.target.now c.args.core c.requires.written c.args.done c.args.count
    c.requires.within in
    omega arith

pub read-core-requires : goal.read-core-requires
read-core-requires g c = record {
  inside = inside_slot c.args.target.now c.args.core c.requires.written c.args.done
      (length c.args.out.now) (omega (arith, c.requires.long, c.requires.within));
  small = small_slot c.args.target.now c.args.core c.requires.written c.args.done
      (length c.args.out.now) (omega (arith, c.requires.long, c.requires.within));
}

pub returns-in-Err-clause-ran : goal.returns-in-Err-clause-ran
returns-in-Err-clause-ran g c =
    subst (λ (r : Result (Unit {0}) StepNo). HasRun 0 (read_moves c.args.count) (fault_of r)
    c.args.core c.read-core.result.0) c.in-Err.is
    (subst (λ (n : ℕ). HasRun 0 (read_moves n) (fault_of c.read-core.result.1) c.args.core
    c.read-core.result.0) c.requires.long (c.read-core.ensures.ran 0))

-- its one quiet period shows
pub returns-in-Err-clause-period : goal.returns-in-Err-clause-period
returns-in-Err-clause-period g c =
    subst (λ (r : Result (Unit {0}) StepNo). HasPeriod 0 r c.args.core c.read-core.result.0)
    c.in-Err.is
    (one_read c.args.count c.read-core.result.1 c.args.core c.read-core.result.0 c.requires.some
    c.requires.most (subst (λ (n : ℕ). HasPeriods (read_periods n) c.read-core.result.1
    c.args.core c.read-core.result.0) c.requires.long c.read-core.ensures.periods))

pub returns-clause-period : goal.returns-clause-period
returns-clause-period g c =
    subst (λ (r : Result (Unit {0}) StepNo). HasPeriod 0 r c.args.core c.read-core.result.0)
    c.in_default.is
    (one_read c.args.count c.read-core.result.1 c.args.core c.read-core.result.0 c.requires.some
    c.requires.most (subst (λ (n : ℕ). HasPeriods (read_periods n) c.read-core.result.1
    c.args.core c.read-core.result.0) c.requires.long c.read-core.ensures.periods))

pub returns-clause-ran : goal.returns-clause-ran
returns-clause-ran g c =
    subst (λ (r : Result (Unit {0}) StepNo). HasRun 0 (read_moves c.args.count) (fault_of r)
    c.args.core c.read-core.result.0) c.in_default.is
    (subst (λ (n : ℕ). HasRun 0 (read_moves n) (fault_of c.read-core.result.1) c.args.core
    c.read-core.result.0) c.requires.long (c.read-core.ensures.ran 0))

pub returns-clause-fed : goal.returns-clause-fed
returns-clause-fed g c = λ limit bytes read. let n = g.D.Nor in
    subst (λ (l : List ℕ). HasRead c.feed.new.self limit (bytes ++ l))
    (fed_image n.bytes n.off n.steps n.faults n.setting n.may_end n.may_tear n.may_refuse
    n.must_refuse c.args.target.now c.args.core c.args.done c.args.count c.read-core.new.out
    c.read-core.result.1 c.in_default.field-0 c.requires.written
    (omega (arith, c.read-core.ensures.length, c.requires.long)) c.requires.within c.in_default.is
    c.read-core.ensures.bytes) (c.feed.ensures.read limit bytes read)
