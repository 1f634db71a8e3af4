-- Each period goes on where the last one ended, until all bytes were handed to the verifier.
use Rattle.std.proofs.Common.{rules, ◌++◌, ℕ, List, Result, OnOk, drop, take, subst, arith}
use Rattle.image_verify.specs.Fed.{HasRead}
use Rattle.flash_ops.specs.declared.refusal.StepNo.{StepNo}
use Rattle.ota_session.specs.Stages.{image_of}
use Rattle.ota_session.proofs.ReadBackLemmas.{fed_all, fed_breaks, fed_more, fed_none, fed_periods, fed_ran, fed_stops}
use Rattle.ota_session.proofs.readback.read_back.Goals as goal

-- at first nothing was read
pub loop-done-init : goal.loop-done-init
loop-done-init g c =
    fed_none c.args.target.now c.new-verifier.result c.args.core c.requires.written (search rules)

pub returns-in-Err-clause-ran : goal.returns-in-Err-clause-ran
returns-in-Err-clause-ran g c =
    let min = c.min-count.ensures in
    let within = c.loop-done.invariant.within in
    let more = c.loop-done-test.true in
    fed_stops c.args.target.now c.loop-done.done c.loop-done.verifier c.args.core c.loop-done.core
    c.loop-done.invariant c.min-count.result c.feed_period-next.result.0
    c.feed_period-next.result.1 more (omega arith) (omega arith) (λ few. omega arith)
    (λ many. omega arith) c.feed_period-next.ensures.ran c.feed_period-next.ensures.period c.in-Err.no
    c.in-Err.is

pub returns-in-Err-clause-periods : goal.returns-in-Err-clause-periods
returns-in-Err-clause-periods g c =
    let min = c.min-count.ensures in
    let within = c.loop-done.invariant.within in
    let more = c.loop-done-test.true in
    fed_breaks c.args.target.now c.loop-done.done c.loop-done.verifier c.args.core
    c.loop-done.core c.loop-done.invariant c.min-count.result c.feed_period-next.result.0
    c.feed_period-next.result.1 more (omega arith) (omega arith) (λ few. omega arith)
    (λ many. omega arith) c.feed_period-next.ensures.ran c.feed_period-next.ensures.period
    c.in-Err.no c.in-Err.is

pub loop-done-preserved : goal.loop-done-preserved
loop-done-preserved g c =
    let min = c.min-count.ensures in
    let within = c.loop-done.invariant.within in
    let more = c.loop-done-test.true in
    let fed : (limit : ℕ) → (bytes : List ℕ) → HasRead c.loop-done.verifier limit bytes
    → HasRead c.feed_period-next.new.verifier limit
    (bytes ++ take c.min-count.result (drop c.loop-done.done (image_of c.loop-done.core.base))) =
    subst (λ (r : Result (Unit {0}) StepNo). OnOk r ((limit : ℕ) → (bytes : List ℕ)
    → HasRead c.loop-done.verifier limit bytes → HasRead c.feed_period-next.new.verifier limit
    (bytes ++ take c.min-count.result (drop c.loop-done.done (image_of c.loop-done.core.base)))))
    c.in_default.is c.feed_period-next.ensures.fed in
    fed_more c.args.target.now c.loop-done.done c.loop-done.verifier c.args.core c.loop-done.core
    c.loop-done.invariant c.min-count.result c.feed_period-next.result.0
    c.feed_period-next.result.1 more (omega arith) (omega arith) (λ few. omega arith)
    (λ many. omega arith) c.feed_period-next.ensures.ran c.feed_period-next.ensures.period
    c.feed_period-next.new.verifier
    c.in_default.field-0 c.in_default.is
    (fed c.args.target.now.size _ c.loop-done.invariant.read)

pub returns : goal.returns
returns g c = record {
  ran = fed_ran c.args.target.now c.loop-done.done c.loop-done.verifier c.args.core
      c.loop-done.core c.loop-done.invariant c.loop-done-test.false;
  periods = fed_periods c.args.target.now c.loop-done.done c.loop-done.verifier c.args.core
      c.loop-done.core c.loop-done.invariant c.loop-done-test.false;
  exact = c.fault_of_all.ensures.exact c.args.target.now.size _
      (fed_all c.args.target.now c.loop-done.done c.loop-done.verifier c.args.core
      c.loop-done.core c.loop-done.invariant c.loop-done-test.false);
}
