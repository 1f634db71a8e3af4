use Rattle.std.proofs.Common.{rules}
use Rattle.power_cut.proofs.RestoringLemmas.{beside_rows, rows_restored}
use Rattle.power_cut.proofs.restoring.restore_rows.Goals as goal

-- all partitions that may be written to are left
pub loop-i-init : goal.loop-i-init
loop-i-init c =
    beside_rows c.args.rows.now c.args.flash.now c.args.bytes.now c.requires.kept

-- none is
pub returns : goal.returns
returns c = record {
  exact = rows_restored c.args.rows.now c.loop-i.i c.args.flash.now c.loop-i.bytes (search rules)
      c.loop-i.invariant;
}
