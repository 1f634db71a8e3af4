use Rattle.std.proofs.Common.{◌∙◌, sym}
use Rattle.boot_select.specs.Settled.{sectors}
use Rattle.boot_run.proofs.WritesLemmas.{written_more, written_all}
use Rattle.boot_run.proofs.booting.after.Goals as goal

-- one rewrite more is made
pub loop-write-preserved : goal.loop-write-preserved
loop-write-preserved c =
    let b = c.loop-write.invariant in
    let same = written_more c.args.writes.now c.loop-write.write-index _
    (sectors c.loop-write.first c.loop-write.second) (sectors c.changed.result.0 c.changed.result.1)
    c.loop-write-test.true c.changed.ensures.first c.changed.ensures.second in
    record { first = same.0 ∙ b.first; second = same.1 ∙ b.second }

pub returns-clause-first : goal.returns-clause-first
returns-clause-first c =
    sym (written_all c.args.writes.now c.loop-write.write-index
    (sectors c.loop-write.first c.loop-write.second) 0 c.loop-write-test.false)
    ∙ c.loop-write.invariant.first

pub returns-clause-second : goal.returns-clause-second
returns-clause-second c =
    sym (written_all c.args.writes.now c.loop-write.write-index
    (sectors c.loop-write.first c.loop-write.second) 1 c.loop-write-test.false)
    ∙ c.loop-write.invariant.second
