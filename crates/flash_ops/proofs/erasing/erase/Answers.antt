use Rattle.std.proofs.Common.{◌≡◌, ◌+◌, ◌-◌, ◌/◌, ◌∙◌, ap, sym, subst, refl, arith, ℕ, suc, List, ◌∷◌, Option, Result, Ok}
use Rattle.std.specs.Prelude.{replicate}
use Rattle.nor_device.specs.declared.step.Step.TheVariants.{Erase}
use Rattle.nor_device.specs.declared.nor.NorFault.{NorFault}
use Rattle.flash_ops.specs.Moves.{Move, Make, HasRun, looks, erase_moves}
use Rattle.flash_ops.specs.Asked.{CanMakeMoves}
use Rattle.flash_ops.proofs.Runs.{base_same, left_all, left_none, left_stops, left_then}
use Rattle.flash_ops.proofs.Can.{can_first, can_then}
use Rattle.flash_ops.proofs.Pieces.{all_sectors, next_sector, no_sector, sectors_left}
use Rattle.flash_ops.proofs.Counts.{counting_all, counting_none, counting_one, counting_stops}
use Rattle.flash_ops.specs.Periods.{HasPeriod, erase_periods}
use Rattle.flash_ops.specs.Told.{CountsPeriods}
use Rattle.flash_steps.proofs.EraseLemmas.{count_of_erase}
use Rattle.flash_ops.proofs.PeriodLemmas.{erase_periods_all, no_sector_period, passed_all, passed_none, passed_one, passed_stops, sector_period}
use Rattle.flash_ops.proofs.Telling.{told_none, told_then}
use Rattle.flash_ops.proofs.erasing.erase.Goals as goal

-- at first all sectors are left
pub loop-i-init : goal.loop-i-init
loop-i-init g c =
    let d = g.K.Duty in
    let probe = c.args.beat.now.probe in
    let first = c.args.at / 4096 in
    let count = c.args.len / 4096 in
    let is = all_sectors probe c.args.at c.args.len in
    let all : count - 0 ≡ count = omega arith in
    record {
      base = refl;
      can = subst (λ (m : List Move). CanMakeMoves d.part d.grants d.moved m probe c.args.core) is
          c.requires.can;
      left = left_all c.args.k (erase_moves probe c.args.at c.args.len)
          (sectors_left probe first count 0) c.args.core is;
      probe = refl;
      pace = refl;
      ops = counting_none count (count - 0) c.args.beat.now.ops all;
      passed = passed_none (erase_periods c.args.at c.args.len) (replicate (count - 0) 1) c.args.core
          (erase_periods_all c.args.at c.args.len);
      told = told_none (g.P.Pace.told c.args.beat.now.pace.now) c.args.beat.now.ops c.args.beat.now.ops refl;
    }

-- the first of those that are left
pub erase_period-next-requires-clause-can : goal.erase_period-next-requires-clause-can
erase_period-next-requires-clause-can g c =
    let d = g.K.Duty in
    let inv = c.loop-i.invariant in
    let probe = c.args.beat.now.probe in
    let core = c.loop-i.core in
    let i = c.loop-i.i in
    let first = c.args.at / 4096 in
    let count = c.args.len / 4096 in
    subst (λ (p : Option ℕ). CanMakeMoves d.part d.grants d.moved (Make (Erase (first + i)) ∷ looks p) p
    core) (sym inv.probe)
    (can_first d.part d.grants d.moved (Make (Erase (first + i)) ∷ looks probe)
    (sectors_left probe first count (i + 1)) probe core
    (subst (λ (m : List Move). CanMakeMoves d.part d.grants d.moved m probe core)
    (next_sector probe first count i c.loop-i-test.true) inv.can))

-- it was refused
pub returns-in-Err-clause-ran : goal.returns-in-Err-clause-ran
returns-in-Err-clause-ran g c =
    let inv = c.loop-i.invariant in
    let probe = c.args.beat.now.probe in
    let core = c.loop-i.core in
    let next = c.erase_period-next.result.0 in
    let i = c.loop-i.i in
    let first = c.args.at / 4096 in
    let count = c.args.len / 4096 in
    let moves = Make (Erase (first + i)) ∷ looks probe in
    let whole = erase_moves probe c.args.at c.args.len in
    let ran = subst (λ (p : Option ℕ). HasRun c.args.k (Make (Erase (first + i)) ∷ looks p)
    c.erase_period-next.result.1 core next) inv.probe c.erase_period-next.ensures.ran in
    subst (λ (z : Result (Unit {0}) NorFault). HasRun c.args.k whole z c.args.core next)
    (sym c.answer.ensures.exact)
    (left_stops c.args.k whole (sectors_left probe first count i) moves
    (sectors_left probe first count (i + 1)) c.in-Err.why c.args.core core next
    (next_sector probe first count i c.loop-i-test.true) inv.left
    (subst (λ (z : Result (Unit {0}) NorFault). HasRun c.args.k moves z core next) c.in-Err.is ran))

-- and counted
pub returns-in-Err-clause-ops : goal.returns-in-Err-clause-ops
returns-in-Err-clause-ops g c =
    let inv = c.loop-i.invariant in
    let i = c.loop-i.i in
    let count = c.args.len / 4096 in
    let within = c.loop-i-test.true in
    let more : count - i ≡ suc (count - (i + 1)) = omega arith in
    subst (λ (n : ℕ). CountsPeriods n c.answer.result c.args.beat.now.ops
    c.erase_period-next.new.beat.ops) (sym (count_of_erase c.args.at c.args.len))
    (counting_stops count (count - (i + 1)) c.args.beat.now.ops c.erase_period-next.new.beat.ops
    c.answer.result c.in-Err.why c.answer.ensures.exact
    (counting_one count (count - i) (count - (i + 1)) c.args.beat.now.ops c.loop-i.beat.ops
    c.erase_period-next.new.beat.ops more inv.ops c.erase_period-next.ensures.ops))

-- in its quiet period
pub returns-in-Err-clause-periods : goal.returns-in-Err-clause-periods
returns-in-Err-clause-periods g c =
    let core = c.loop-i.core in
    let next = c.erase_period-next.result.0 in
    let i = c.loop-i.i in
    let count = c.args.len / 4096 in
    passed_stops (erase_periods c.args.at c.args.len) (replicate (count - i) 1)
    (replicate (count - (i + 1)) 1) 1 c.answer.result c.in-Err.why c.args.core core next
    c.answer.ensures.exact (sector_period count i c.loop-i-test.true) c.loop-i.invariant.passed
    (subst (λ (z : Result (Unit {0}) NorFault). HasPeriod 1 z core next) c.in-Err.is
    c.erase_period-next.ensures.period)

-- and told
pub returns-in-Err-clause-told : goal.returns-in-Err-clause-told
returns-in-Err-clause-told g c =
    let inv = c.loop-i.invariant in
    told_then (λ p. g.P.Pace.told p.now) c.args.beat.now.pace c.loop-i.beat.pace
    c.args.beat.now.ops c.loop-i.beat.ops c.erase_period-next.new.beat.ops inv.pace inv.told
    c.erase_period-next.ensures.told

-- one sector more was erased
pub loop-i-preserved : goal.loop-i-preserved
loop-i-preserved g c =
    let d = g.K.Duty in
    let inv = c.loop-i.invariant in
    let probe = c.args.beat.now.probe in
    let core = c.loop-i.core in
    let next = c.erase_period-next.result.0 in
    let i = c.loop-i.i in
    let first = c.args.at / 4096 in
    let count = c.args.len / 4096 in
    let within = c.loop-i-test.true in
    let more : count - i ≡ suc (count - (i + 1)) = omega arith in
    let moves = Make (Erase (first + i)) ∷ looks probe in
    let whole = erase_moves probe c.args.at c.args.len in
    let later = sectors_left probe first count (i + 1) in
    let is = next_sector probe first count i within in
    let ran = subst (λ (p : Option ℕ). HasRun c.args.k (Make (Erase (first + i)) ∷ looks p)
    c.erase_period-next.result.1 core next) inv.probe c.erase_period-next.ensures.ran in
    let made : HasRun c.args.k moves (Ok tt) core next =
    subst (λ (z : Result (Unit {0}) NorFault). HasRun c.args.k moves z core next) c.in_default.is
    ran in
    record {
      base = base_same c.args.k moves (Ok tt) core next made ∙ inv.base;
      can = can_then d.part d.grants d.moved c.args.k moves later probe core next
          (subst (λ (m : List Move). CanMakeMoves d.part d.grants d.moved m probe core) is inv.can) made;
      left = left_then c.args.k whole (sectors_left probe first count i) moves later c.args.core
          core next is inv.left made;
      probe = c.erase_period-next.ensures.probe ∙ inv.probe;
      pace = c.erase_period-next.ensures.pace ∙ inv.pace;
      ops = counting_one count (count - i) (count - (i + 1)) c.args.beat.now.ops c.loop-i.beat.ops
          c.erase_period-next.new.beat.ops more inv.ops c.erase_period-next.ensures.ops;
      passed = passed_one (erase_periods c.args.at c.args.len) (replicate (count - i) 1)
          (replicate (count - (i + 1)) 1) 1 c.args.core core next (sector_period count i within)
          inv.passed
          (subst (λ (z : Result (Unit {0}) NorFault). HasPeriod 1 z core next) c.in_default.is
          c.erase_period-next.ensures.period);
      told = told_then (λ p. g.P.Pace.told p.now) c.args.beat.now.pace c.loop-i.beat.pace
          c.args.beat.now.ops c.loop-i.beat.ops c.erase_period-next.new.beat.ops inv.pace inv.told
          c.erase_period-next.ensures.told;
    }

-- no sector is left
pub returns-clause-ran : goal.returns-clause-ran
returns-clause-ran g c =
    let probe = c.args.beat.now.probe in
    let first = c.args.at / 4096 in
    let count = c.args.len / 4096 in
    let all : c.loop-i.i ≡ count = omega (arith, c.loop-i-test.false, c.loop-i.auto.i-end) in
    left_none c.args.k (erase_moves probe c.args.at c.args.len)
    (sectors_left probe first count c.loop-i.i) c.args.core c.loop-i.core
    (ap (sectors_left probe first count) all ∙ no_sector probe first count)
    c.loop-i.invariant.left

pub returns-clause-ops : goal.returns-clause-ops
returns-clause-ops g c =
    let count = c.args.len / 4096 in
    let none : count - c.loop-i.i ≡ 0 = omega (arith, c.loop-i-test.false) in
    subst (λ (n : ℕ). CountsPeriods n (Ok tt) c.args.beat.now.ops c.loop-i.beat.ops)
    (sym (count_of_erase c.args.at c.args.len))
    (counting_all count (count - c.loop-i.i) c.args.beat.now.ops c.loop-i.beat.ops none
    c.loop-i.invariant.ops)

pub returns-clause-periods : goal.returns-clause-periods
returns-clause-periods g c =
    let left = c.args.len / 4096 - c.loop-i.i in
    let none : left ≡ 0 = omega (arith, c.loop-i-test.false) in
    passed_all (erase_periods c.args.at c.args.len) (replicate left 1) c.args.core c.loop-i.core
    (no_sector_period left none) c.loop-i.invariant.passed
