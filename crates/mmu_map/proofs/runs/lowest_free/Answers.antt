use Rattle.std.proofs.Common.{arith, rules}
use Rattle.mmu_map.proofs.Free.{found, scanned, ended}
use Rattle.mmu_map.proofs.runs.lowest_free.Goals as goal

-- the run that ends here is the lowest that is long enough
pub returns-then-run-n-clause-ok : goal.returns-then-run-n-clause-ok
returns-then-run-n-clause-ok c =
    found c.args.uses.now c.args.n c.loop-i.i c.loop-i.run c.loop-i.longest
    c.extended_by-run.result c.loop-i.invariant (omega arith) c.requires.some
    c.extended_by-run.ensures.exact c.if-run-n.true

-- one page more is looked at
pub loop-i-preserved : goal.loop-i-preserved
loop-i-preserved c =
    scanned c.args.uses.now c.args.n c.loop-i.i c.loop-i.run c.loop-i.longest
    c.extended_by-run.result c.max-longest.result c.loop-i.invariant (omega arith)
    c.extended_by-run.ensures.exact c.if-run-n.false (search rules)

-- no page is left
pub returns-clause-err : goal.returns-clause-err
returns-clause-err c =
    ended c.args.uses.now c.args.n c.loop-i.i c.loop-i.run c.loop-i.longest c.loop-i.invariant
    (omega arith)
