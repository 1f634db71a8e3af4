use Rattle.std.proofs.Common.{◌≡◌, ◌+◌, ◌∙◌, Ok, List, length, subst, sym}
use Rattle.nor_device.specs.declared.step.Step.{Step}
use Rattle.flash_steps.specs.Parts.{part_write_steps}
use Rattle.flash_steps.specs.Rules.{write_checked}
use Rattle.flash_ops.specs.Asked.{CanChange}
use Rattle.flash_ops.specs.Periods.{HasPeriods, write_periods}
use Rattle.flash_ops.specs.Told.{HasChanged}
use Rattle.flash_ops.proofs.Changes.{if_row, of_row, write_part_steps}
use Rattle.flash_ops.proofs.parts.part_write.Goals as goal

-- the steps in the row that was found
pub write_at-requires : goal.write_at-requires
write_at-requires g c =
    let d = g.K.Duty in
    let rows = c.args.table.now in
    let label = c.args.label.now in
    let bytes = c.args.bytes.now in
    let row = c.in-Ok.row in
    let is : write_checked rows label c.args.offset (length bytes) ≡ Ok row =
    sym c.check_write.ensures.exact ∙ c.in-Ok.is in
    subst (λ (steps : List Step). CanChange d.part d.grants d.moved (row.offset + c.args.offset)
    (length bytes) steps c.args.core) (write_part_steps rows label c.args.offset bytes row is)
    (of_row (write_checked rows label c.args.offset (length bytes)) row
    (λ row. CanChange d.part d.grants d.moved (row.offset + c.args.offset) (length bytes)
    (part_write_steps rows label c.args.offset bytes) c.args.core) is c.requires.can)

pub returns-in-Ok-clause-ran : goal.returns-in-Ok-clause-ran
returns-in-Ok-clause-ran g c =
    let rows = c.args.table.now in
    let label = c.args.label.now in
    let bytes = c.args.bytes.now in
    let row = c.in-Ok.row in
    let is : write_checked rows label c.args.offset (length bytes) ≡ Ok row =
    sym c.check_write.ensures.exact ∙ c.in-Ok.is in
    if_row (write_checked rows label c.args.offset (length bytes)) row
    (λ _. HasChanged c.args.k (part_write_steps rows label c.args.offset bytes)
    c.write_at.result.1 c.args.core c.write_at.result.0) is
    (subst (λ (steps : List Step). HasChanged c.args.k steps c.write_at.result.1 c.args.core
    c.write_at.result.0) (sym (write_part_steps rows label c.args.offset bytes row is))
    c.write_at.ensures.ran)

-- in its quiet periods
pub returns-in-Ok-clause-periods : goal.returns-in-Ok-clause-periods
returns-in-Ok-clause-periods g c =
    let rows = c.args.table.now in
    let label = c.args.label.now in
    let bytes = c.args.bytes.now in
    let row = c.in-Ok.row in
    let is : write_checked rows label c.args.offset (length bytes) ≡ Ok row =
    sym c.check_write.ensures.exact ∙ c.in-Ok.is in
    if_row (write_checked rows label c.args.offset (length bytes)) row
    (λ row. HasPeriods (write_periods (row.offset + c.args.offset) bytes) c.write_at.result.1 c.args.core
    c.write_at.result.0) is c.write_at.ensures.periods
