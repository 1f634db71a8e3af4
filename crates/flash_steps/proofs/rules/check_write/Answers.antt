use Rattle.std.proofs.Common.{rules, ◌≡◌, Ok, true, ◌+◌}
use Rattle.std.specs.Prelude.{nat_le}
use Rattle.flash_steps.specs.Rules.{open_row}
use Rattle.flash_steps.proofs.RuleLemmas.{open_for, part_of}
use Rattle.flash_steps.proofs.rules.check_write.Goals as goal

-- the partition is open, and the range ends inside it
pub returns-then-ends_in-clause-open : goal.returns-then-ends_in-clause-open
returns-then-ends_in-clause-open c =
    let row : open_row c.args.label.now c.args.table.now ≡ Ok c.in_ok-row.row = search rules in
    let ends : nat_le (c.args.offset + c.args.length) c.in_ok-row.row.size ≡ true = search rules in
    open_for c.args.table.now c.args.label.now c.args.offset c.args.length c.in_ok-row.row row ends

-- so it is a part of the flash
pub returns-then-ends_in-clause-placed : goal.returns-then-ends_in-clause-placed
returns-then-ends_in-clause-placed c flash fits =
    part_of flash c.args.table.now c.args.label.now c.args.offset c.args.length c.in_ok-row.row fits
    (returns-then-ends_in-clause-open c)
