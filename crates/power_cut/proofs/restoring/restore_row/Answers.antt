use Rattle.std.proofs.Common.{◌≡◌, true, rules}
use Rattle.std.specs.Option.{is_none}
use Rattle.flash_steps.specs.Rules.{row_barred}
use Rattle.power_cut.proofs.RestoringLemmas.{open_restored}
use Rattle.power_cut.proofs.restoring.restore_row.Goals as goal

-- a partition that may be written to
pub returns-then-is_none : goal.returns-then-is_none
returns-then-is_none c =
    let free : is_none (row_barred c.args.row.now) ≡ true = search rules in
    record {
      restored = open_restored c.args.flash.now c.args.row.now c.args.bytes.now
          c.copy_part.new.bytes free c.copy_part.ensures.copied;
    }
