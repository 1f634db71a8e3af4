use Rattle.std.proofs.Common.{◌≡◌, ◌+◌, ◌-◌, ◌∙◌, ap, sym, subst, arith, ℕ, List, [], ◌∷◌, length, take, length-take, Result, Ok, OnOk}
use Rattle.std.proofs.lemmas.List.{take_all}
use Rattle.std.proofs.lemmas.Slice.{take-put_mid}
use borrow.Rule.Slice.PartMut.{mid_of, mid_len}
use Rattle.nor_device.specs.declared.nor.NorFault.{NorFault}
use Rattle.flash_ops.specs.Moves.{Ask, HasRun, read_moves}
use Rattle.flash_ops.specs.Shown.{AreBytesOf}
use Rattle.flash_ops.proofs.Runs.{asks_kept, keeps_same, keeps_then, left_all, left_none, left_stops, left_then}
use Rattle.flash_ops.proofs.Pieces.{read_next, read_nothing}
use Rattle.flash_ops.proofs.Bytes.{StandsBy, bytes_kept, bytes_none, bytes_then}
use Rattle.flash_ops.specs.Periods.{HasPeriod, read_periods}
use Rattle.flash_ops.proofs.PeriodLemmas.{passed_all, passed_none, passed_one, passed_stops, read_periods_next, read_periods_none}
use Rattle.flash_ops.proofs.reading.read.Goals as goal

-- at first nothing was read
pub loop-done-init : goal.loop-done-init
loop-done-init g c = let n = g.D.Nor in let d = g.K.Duty in record {
  within = omega arith;
  kept = keeps_same c.args.core;
  left = λ k. left_all k (read_moves (length c.args.out.now))
      (read_moves (length c.args.out.now - 0)) c.args.core
      (let all : length c.args.out.now ≡ length c.args.out.now - 0 = omega arith in
      ap read_moves all);
  passed = passed_none (read_periods (length c.args.out.now))
      (read_periods (length c.args.out.now - 0)) c.args.core
      (let all : length c.args.out.now - 0 ≡ length c.args.out.now = omega arith in
      ap read_periods all);
  bytes = bytes_none (StandsBy n.bytes n.off n.steps n.faults n.setting n.may_end n.may_tear
      n.may_refuse n.must_refuse d.part d.grants d.after d.good) (λ h. n.bytes h.dev)
      c.args.core.base c.args.core.core c.args.core.share c.args.at _ c.requires.inside;
}

-- a piece was refused
pub returns-in-Err-clause-ran : goal.returns-in-Err-clause-ran
returns-in-Err-clause-ran g c = λ k.
    let inv = c.loop-done.invariant in
    let core = c.loop-done.core in
    let next = c.read_period-next.result.0 in
    let len = length c.args.out.now - c.loop-done.done in
    let piece = c.min.result in
    let whole = read_moves (length c.args.out.now) in
    let within = c.loop-done-test.true in
    subst (λ (z : Result (Unit {0}) NorFault). HasRun k whole z c.args.core next)
    (sym c.answer.ensures.exact)
    (left_stops k whole (read_moves len) (Ask ∷ []) (read_moves (len - piece)) c.in-Err.why
    c.args.core core next
    (read_next len piece (omega arith) (omega (arith, c.min.ensures))
    (λ few. omega (arith, c.min.ensures)) (λ many. omega (arith, c.min.ensures))) (inv.left k)
    (subst (λ (z : Result (Unit {0}) NorFault). HasRun k (Ask ∷ []) z core next) c.in-Err.is
    (c.read_period-next.ensures.ran k)))

-- in its quiet period
pub returns-in-Err-clause-periods : goal.returns-in-Err-clause-periods
returns-in-Err-clause-periods g c =
    let core = c.loop-done.core in
    let next = c.read_period-next.result.0 in
    let len = length c.args.out.now - c.loop-done.done in
    let piece = c.min.result in
    let within = c.loop-done-test.true in
    passed_stops (read_periods (length c.args.out.now)) (read_periods len)
    (read_periods (len - piece)) 0 c.answer.result c.in-Err.why c.args.core core next
    c.answer.ensures.exact
    (read_periods_next len piece (omega arith) (omega (arith, c.min.ensures))
    (λ few. omega (arith, c.min.ensures)) (λ many. omega (arith, c.min.ensures)))
    c.loop-done.invariant.passed
    (subst (λ (z : Result (Unit {0}) NorFault). HasPeriod 0 z core next) c.in-Err.is
    c.read_period-next.ensures.period)

-- one piece more was read
pub loop-done-preserved : goal.loop-done-preserved
loop-done-preserved g c =
    let n = g.D.Nor in
    let d = g.K.Duty in
    let inv = c.loop-done.invariant in
    let core = c.loop-done.core in
    let next = c.read_period-next.result.0 in
    let done = c.loop-done.done in
    let out = c.loop-done.out in
    let read = c.read_period-next.new.out in
    let len = length c.args.out.now - done in
    let piece = c.min.result in
    let within = c.loop-done-test.true in
    let long = c.loop-done.auto.out in
    let made : (k : ℕ) → HasRun k (Ask ∷ []) (Ok tt) core next = λ k.
    subst (λ (z : Result (Unit {0}) NorFault). HasRun k (Ask ∷ []) z core next) c.in_default.is
    (c.read_period-next.ensures.ran k) in
    let part = mid_of done (piece + done - done) out in
    let size : length read ≡ piece =
    let e : length read ≡ length part = c.read_period-next.ensures.length in
    let f = mid_len done (piece + done) out (omega (arith, c.min.ensures)) in
    omega arith in
    let front : length (take done out) ≡ done =
    let e = length-take done out in omega arith in
    let place : c.args.at + done ≡ c.args.at + length (take done out) = omega arith in
    let later : len - piece ≡ length c.args.out.now - (piece + done) = omega arith in
    let stands = StandsBy n.bytes n.off n.steps n.faults n.setting n.may_end n.may_tear
    n.may_refuse n.must_refuse d.part d.grants d.after d.good in
    record {
      within = omega (arith, c.min.ensures);
      kept = keeps_then c.args.core core next inv.kept (asks_kept 0 1 core next (made 0));
      left = λ k. left_then k (read_moves (length c.args.out.now)) (read_moves len) (Ask ∷ [])
          (read_moves (length c.args.out.now - (piece + done))) c.args.core core next
          (read_next len piece (omega arith) (omega (arith, c.min.ensures))
          (λ few. omega (arith, c.min.ensures)) (λ many. omega (arith, c.min.ensures))
          ∙ ap (λ (m : ℕ). Ask ∷ read_moves m) later)
          (inv.left k) (made k);
      passed = passed_one (read_periods (length c.args.out.now)) (read_periods len)
          (read_periods (length c.args.out.now - (piece + done))) 0 c.args.core core next
          (read_periods_next len piece (omega arith) (omega (arith, c.min.ensures))
          (λ few. omega (arith, c.min.ensures)) (λ many. omega (arith, c.min.ensures))
          ∙ ap (λ (m : ℕ). 0 ∷ read_periods m) later)
          inv.passed
          (subst (λ (z : Result (Unit {0}) NorFault). HasPeriod 0 z core next) c.in_default.is
          c.read_period-next.ensures.period);
      bytes = subst (λ (l : List ℕ). AreBytesOf stands (λ h. n.bytes h.dev) c.args.core.base
          c.args.core.core c.args.core.share c.args.at l)
          (sym (take-put_mid done (piece + done - done) out read (piece + done) (omega arith)
          (omega arith)))
          (bytes_then stands (λ h. n.bytes h.dev) c.args.core.base c.args.core.core
          c.args.core.share c.args.at (take done out) read inv.bytes
          (subst (λ (m : ℕ). AreBytesOf stands (λ h. n.bytes h.dev) c.args.core.base
          c.args.core.core c.args.core.share m read) place
          (bytes_kept n.bytes n.off n.steps n.faults n.setting n.may_end n.may_tear n.may_refuse
          n.must_refuse d.part d.grants d.after d.good c.args.core core (c.args.at + done) read
          inv.kept (subst (λ (z : Result (Unit {0}) NorFault). OnOk z (AreBytesOf stands
          (λ h. n.bytes h.dev) core.base core.core core.share (c.args.at + done) read))
          c.in_default.is c.read_period-next.ensures.bytes))));
    }

-- nothing is left
pub returns-clause-ran : goal.returns-clause-ran
returns-clause-ran g c = λ k.
    let len = length c.args.out.now - c.loop-done.done in
    let none : len ≡ 0 = omega (arith, c.loop-done-test.false) in
    left_none k (read_moves (length c.args.out.now)) (read_moves len) c.args.core
    c.loop-done.core (ap read_moves none ∙ read_nothing) (c.loop-done.invariant.left k)

pub returns-clause-periods : goal.returns-clause-periods
returns-clause-periods g c =
    let len = length c.args.out.now - c.loop-done.done in
    let none : len ≡ 0 = omega (arith, c.loop-done-test.false) in
    passed_all (read_periods (length c.args.out.now)) (read_periods len) c.args.core
    c.loop-done.core (ap read_periods none ∙ read_periods_none) c.loop-done.invariant.passed

pub returns-clause-bytes : goal.returns-clause-bytes
returns-clause-bytes g c = let n = g.D.Nor in let d = g.K.Duty in
    subst (λ (out : List ℕ). AreBytesOf (StandsBy n.bytes n.off n.steps n.faults n.setting n.may_end
    n.may_tear n.may_refuse n.must_refuse d.part d.grants d.after d.good) (λ h. n.bytes h.dev)
    c.args.core.base c.args.core.core c.args.core.share c.args.at out)
    (take_all c.loop-done.done c.loop-done.out c.loop-done-test.false)
    c.loop-done.invariant.bytes
