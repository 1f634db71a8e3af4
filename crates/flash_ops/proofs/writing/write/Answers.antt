use Rattle.std.proofs.Common.{◌≡◌, ◌≤◌, ◌+◌, ◌-◌, ◌%◌, ◌++◌, ◌∙◌, sym, subst, refl, arith, ℕ, List, length, Option, Result, Ok}
use Rattle.std.proofs.lemmas.Bool.Decides.{nat_tests}
use Rattle.nor_device.specs.declared.nor.NorFault.{NorFault}
use Rattle.cache_gate.specs.Own.{IsInside}
use Rattle.flash_steps.specs.Steps.{write_steps}
use Rattle.flash_ops.specs.Moves.{Move, HasRun, makes, looks, periods_of, write_moves}
use Rattle.flash_ops.specs.Asked.{CanMakeMoves}
use Rattle.flash_ops.proofs.Runs.{left_all, left_none, left_stops, left_then}
use Rattle.flash_ops.proofs.Can.{can_first, can_then, inside_run}
use Rattle.flash_ops.proofs.Pieces.{length_cut, periods_cut, periods_done, write_done, write_period_cut}
use Rattle.flash_ops.proofs.Counts.{counting_all, counting_none, counting_one, counting_stops}
use Rattle.flash_ops.specs.Periods.{HasPeriod, write_periods}
use Rattle.flash_ops.proofs.PeriodLemmas.{passed_all, passed_none, passed_one, passed_stops, write_periods_cut, write_periods_done}
use Rattle.flash_ops.proofs.Telling.{told_none, told_then}
use Rattle.flash_ops.proofs.writing.write.Goals as goal

-- at first all is left
pub loop-rest-init : goal.loop-rest-init
loop-rest-init g c =
    let moves = write_moves c.args.beat.now.probe c.args.at c.args.bytes.now in
    let count = periods_of (write_steps c.args.at c.args.bytes.now) in
    record {
      inside = c.requires.inside;
      small = c.requires.small;
      can = c.requires.can;
      left = left_all c.args.k moves moves c.args.core refl;
      probe = refl;
      pace = refl;
      ops = counting_none count count c.args.beat.now.ops refl;
      passed = passed_none (write_periods c.args.at c.args.bytes.now)
          (write_periods c.args.at c.args.bytes.now) c.args.core refl;
      told = told_none (g.P.Pace.told c.args.beat.now.pace.now) c.args.beat.now.ops c.args.beat.now.ops refl;
    }

-- the first quiet period of what is left
pub write_period-next-requires-clause-can : goal.write_period-next-requires-clause-can
write_period-next-requires-clause-can g c =
    let d = g.K.Duty in
    let inv = c.loop-rest.invariant in
    let probe = c.args.beat.now.probe in
    let core = c.loop-rest.core in
    let at = c.loop-rest.at in
    let bytes = c.loop-rest.rest.now in
    let first = c.split_at_period.result.0.now in
    let rest = c.split_at_period.result.1.now in
    let some : 1 ≤ length bytes =
    grind (arith, nat_tests, c.is_empty.ensures, c.loop-rest-test.true) in
    let moves = makes (write_steps at first) in
    let is = write_period_cut probe at bytes first rest some c.split_at_period.ensures.first
    c.split_at_period.ensures.rest in
    subst (λ (p : Option ℕ). CanMakeMoves d.part d.grants d.moved (moves ++ looks p) p core)
    (sym inv.probe)
    (can_first d.part d.grants d.moved (moves ++ looks probe)
    (write_moves probe (at + length first) rest) probe core
    (subst (λ (m : List Move). CanMakeMoves d.part d.grants d.moved m probe core) is inv.can))

-- it was refused
pub returns-in-Err-clause-ran : goal.returns-in-Err-clause-ran
returns-in-Err-clause-ran g c =
    let inv = c.loop-rest.invariant in
    let probe = c.args.beat.now.probe in
    let core = c.loop-rest.core in
    let next = c.write_period-next.result.0 in
    let at = c.loop-rest.at in
    let bytes = c.loop-rest.rest.now in
    let first = c.split_at_period.result.0.now in
    let rest = c.split_at_period.result.1.now in
    let some : 1 ≤ length bytes =
    grind (arith, nat_tests, c.is_empty.ensures, c.loop-rest-test.true) in
    let moves = makes (write_steps at first) in
    let whole = write_moves probe c.args.at c.args.bytes.now in
    let is = write_period_cut probe at bytes first rest some c.split_at_period.ensures.first
    c.split_at_period.ensures.rest in
    let ran = subst (λ (p : Option ℕ). HasRun c.args.k (moves ++ looks p)
    c.write_period-next.result.1 core next) inv.probe c.write_period-next.ensures.ran in
    subst (λ (z : Result (Unit {0}) NorFault). HasRun c.args.k whole z c.args.core next)
    (sym c.answer.ensures.exact)
    (left_stops c.args.k whole (write_moves probe at bytes) (moves ++ looks probe)
    (write_moves probe (at + length first) rest) c.in-Err.why c.args.core core next is inv.left
    (subst (λ (z : Result (Unit {0}) NorFault). HasRun c.args.k (moves ++ looks probe) z core next)
    c.in-Err.is ran))

-- and counted
pub returns-in-Err-clause-ops : goal.returns-in-Err-clause-ops
returns-in-Err-clause-ops g c =
    let inv = c.loop-rest.invariant in
    let at = c.loop-rest.at in
    let bytes = c.loop-rest.rest.now in
    let first = c.split_at_period.result.0.now in
    let rest = c.split_at_period.result.1.now in
    let some : 1 ≤ length bytes =
    grind (arith, nat_tests, c.is_empty.ensures, c.loop-rest-test.true) in
    let whole = periods_of (write_steps c.args.at c.args.bytes.now) in
    let later = periods_of (write_steps (at + length first) rest) in
    counting_stops whole later c.args.beat.now.ops c.write_period-next.new.beat.ops
    c.answer.result c.in-Err.why c.answer.ensures.exact
    (counting_one whole (periods_of (write_steps at bytes)) later c.args.beat.now.ops
    c.loop-rest.beat.ops c.write_period-next.new.beat.ops
    (periods_cut at bytes first rest some c.split_at_period.ensures.first
    c.split_at_period.ensures.rest) inv.ops c.write_period-next.ensures.ops)

-- in its quiet period
pub returns-in-Err-clause-periods : goal.returns-in-Err-clause-periods
returns-in-Err-clause-periods g c =
    let core = c.loop-rest.core in
    let next = c.write_period-next.result.0 in
    let at = c.loop-rest.at in
    let bytes = c.loop-rest.rest.now in
    let first = c.split_at_period.result.0.now in
    let rest = c.split_at_period.result.1.now in
    let some : 1 ≤ length bytes =
    grind (arith, nat_tests, c.is_empty.ensures, c.loop-rest-test.true) in
    let n = length (write_steps at first) in
    passed_stops (write_periods c.args.at c.args.bytes.now) (write_periods at bytes)
    (write_periods (at + length first) rest) n c.answer.result c.in-Err.why c.args.core core next
    c.answer.ensures.exact
    (write_periods_cut at bytes first rest some c.split_at_period.ensures.first
    c.split_at_period.ensures.rest) c.loop-rest.invariant.passed
    (subst (λ (z : Result (Unit {0}) NorFault). HasPeriod n z core next) c.in-Err.is
    c.write_period-next.ensures.period)

-- and told
pub returns-in-Err-clause-told : goal.returns-in-Err-clause-told
returns-in-Err-clause-told g c =
    let inv = c.loop-rest.invariant in
    told_then (λ p. g.P.Pace.told p.now) c.args.beat.now.pace c.loop-rest.beat.pace
    c.args.beat.now.ops c.loop-rest.beat.ops c.write_period-next.new.beat.ops inv.pace inv.told
    c.write_period-next.ensures.told

-- one quiet period more was made
pub loop-rest-preserved : goal.loop-rest-preserved
loop-rest-preserved g c =
    let d = g.K.Duty in
    let inv = c.loop-rest.invariant in
    let probe = c.args.beat.now.probe in
    let core = c.loop-rest.core in
    let next = c.write_period-next.result.0 in
    let at = c.loop-rest.at in
    let bytes = c.loop-rest.rest.now in
    let first = c.split_at_period.result.0.now in
    let rest = c.split_at_period.result.1.now in
    let some : 1 ≤ length bytes =
    grind (arith, nat_tests, c.is_empty.ensures, c.loop-rest-test.true) in
    let moves = makes (write_steps at first) in
    let whole = write_moves probe c.args.at c.args.bytes.now in
    let later = write_moves probe (at + length first) rest in
    let is = write_period_cut probe at bytes first rest some c.split_at_period.ensures.first
    c.split_at_period.ensures.rest in
    let sum = length_cut (4096 - at % 256) bytes first rest c.split_at_period.ensures.first
    c.split_at_period.ensures.rest in
    let place : at + length bytes ≡ at + length first + length rest = omega arith in
    let ran = subst (λ (p : Option ℕ). HasRun c.args.k (moves ++ looks p)
    c.write_period-next.result.1 core next) inv.probe c.write_period-next.ensures.ran in
    let made : HasRun c.args.k (moves ++ looks probe) (Ok tt) core next =
    subst (λ (z : Result (Unit {0}) NorFault). HasRun c.args.k (moves ++ looks probe) z core next)
    c.in_default.is ran in
    record {
      inside = subst (λ (n : ℕ). IsInside next.base n) place
          (inside_run c.args.k (moves ++ looks probe) (Ok tt) core next (at + length bytes) made
          inv.inside);
      small = omega (arith, inv.small);
      can = can_then d.part d.grants d.moved c.args.k (moves ++ looks probe) later probe core next
          (subst (λ (m : List Move). CanMakeMoves d.part d.grants d.moved m probe core) is inv.can)
          made;
      left = left_then c.args.k whole (write_moves probe at bytes) (moves ++ looks probe) later
          c.args.core core next is inv.left made;
      probe = c.write_period-next.ensures.probe ∙ inv.probe;
      pace = c.write_period-next.ensures.pace ∙ inv.pace;
      ops = counting_one (periods_of (write_steps c.args.at c.args.bytes.now))
          (periods_of (write_steps at bytes)) (periods_of (write_steps (at + length first) rest))
          c.args.beat.now.ops c.loop-rest.beat.ops c.write_period-next.new.beat.ops
          (periods_cut at bytes first rest some c.split_at_period.ensures.first
          c.split_at_period.ensures.rest) inv.ops c.write_period-next.ensures.ops;
      passed = passed_one (write_periods c.args.at c.args.bytes.now) (write_periods at bytes)
          (write_periods (at + length first) rest) (length (write_steps at first)) c.args.core core
          next (write_periods_cut at bytes first rest some c.split_at_period.ensures.first
          c.split_at_period.ensures.rest) inv.passed
          (subst (λ (z : Result (Unit {0}) NorFault). HasPeriod (length (write_steps at first)) z
          core next) c.in_default.is c.write_period-next.ensures.period);
      told = told_then (λ p. g.P.Pace.told p.now) c.args.beat.now.pace c.loop-rest.beat.pace
          c.args.beat.now.ops c.loop-rest.beat.ops c.write_period-next.new.beat.ops inv.pace inv.told
          c.write_period-next.ensures.told;
    }

-- nothing is left
pub returns-clause-ran : goal.returns-clause-ran
returns-clause-ran g c =
    let probe = c.args.beat.now.probe in
    let none : length c.loop-rest.rest.now ≡ 0 =
    grind (arith, nat_tests, c.is_empty.ensures, c.loop-rest-test.false) in
    left_none c.args.k (write_moves probe c.args.at c.args.bytes.now)
    (write_moves probe c.loop-rest.at c.loop-rest.rest.now) c.args.core c.loop-rest.core
    (write_done probe c.loop-rest.at c.loop-rest.rest.now none) c.loop-rest.invariant.left

pub returns-clause-ops : goal.returns-clause-ops
returns-clause-ops g c =
    let none : length c.loop-rest.rest.now ≡ 0 =
    grind (arith, nat_tests, c.is_empty.ensures, c.loop-rest-test.false) in
    counting_all (periods_of (write_steps c.args.at c.args.bytes.now))
    (periods_of (write_steps c.loop-rest.at c.loop-rest.rest.now)) c.args.beat.now.ops
    c.loop-rest.beat.ops (periods_done c.loop-rest.at c.loop-rest.rest.now none)
    c.loop-rest.invariant.ops

pub returns-clause-periods : goal.returns-clause-periods
returns-clause-periods g c =
    let none : length c.loop-rest.rest.now ≡ 0 =
    grind (arith, nat_tests, c.is_empty.ensures, c.loop-rest-test.false) in
    passed_all (write_periods c.args.at c.args.bytes.now)
    (write_periods c.loop-rest.at c.loop-rest.rest.now) c.args.core c.loop-rest.core
    (write_periods_done c.loop-rest.at c.loop-rest.rest.now none) c.loop-rest.invariant.passed
