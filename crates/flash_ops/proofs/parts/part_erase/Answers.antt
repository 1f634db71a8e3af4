use Rattle.std.proofs.Common.{◌≡◌, ◌+◌, ◌∙◌, Ok, List, subst, sym}
use Rattle.nor_device.specs.declared.step.Step.{Step}
use Rattle.flash_steps.specs.Parts.{part_erase_steps}
use Rattle.flash_steps.specs.Rules.{erase_checked}
use Rattle.flash_ops.specs.Asked.{CanChange}
use Rattle.flash_ops.specs.Periods.{HasPeriods, erase_periods}
use Rattle.flash_ops.specs.Told.{HasChanged}
use Rattle.flash_ops.proofs.Changes.{if_row, of_row, erase_part_steps}
use Rattle.flash_ops.proofs.parts.part_erase.Goals as goal

-- the steps in the row that was found
pub erase_at-requires-clause-can : goal.erase_at-requires-clause-can
erase_at-requires-clause-can g c =
    let d = g.K.Duty in
    let rows = c.args.table.now in
    let label = c.args.label.now in
    let len = c.args.len in
    let row = c.in-Ok.row in
    let is : erase_checked rows label c.args.offset len ≡ Ok row =
    sym c.check_erase.ensures.exact ∙ c.in-Ok.is in
    subst (λ (steps : List Step). CanChange d.part d.grants d.moved (row.offset + c.args.offset)
    len steps c.args.core) (erase_part_steps rows label c.args.offset len row is)
    (of_row (erase_checked rows label c.args.offset len) row
    (λ row. CanChange d.part d.grants d.moved (row.offset + c.args.offset) len
    (part_erase_steps rows label c.args.offset len) c.args.core) is c.requires.can)

pub returns-in-Ok-clause-ran : goal.returns-in-Ok-clause-ran
returns-in-Ok-clause-ran g c =
    let rows = c.args.table.now in
    let label = c.args.label.now in
    let len = c.args.len in
    let row = c.in-Ok.row in
    let is : erase_checked rows label c.args.offset len ≡ Ok row =
    sym c.check_erase.ensures.exact ∙ c.in-Ok.is in
    if_row (erase_checked rows label c.args.offset len) row
    (λ _. HasChanged c.args.k (part_erase_steps rows label c.args.offset len)
    c.erase_at.result.1 c.args.core c.erase_at.result.0) is
    (subst (λ (steps : List Step). HasChanged c.args.k steps c.erase_at.result.1 c.args.core
    c.erase_at.result.0) (sym (erase_part_steps rows label c.args.offset len row is))
    c.erase_at.ensures.ran)

-- in its quiet periods
pub returns-in-Ok-clause-periods : goal.returns-in-Ok-clause-periods
returns-in-Ok-clause-periods g c =
    let rows = c.args.table.now in
    let label = c.args.label.now in
    let len = c.args.len in
    let row = c.in-Ok.row in
    let is : erase_checked rows label c.args.offset len ≡ Ok row =
    sym c.check_erase.ensures.exact ∙ c.in-Ok.is in
    if_row (erase_checked rows label c.args.offset len) row
    (λ row. HasPeriods (erase_periods (row.offset + c.args.offset) len) c.erase_at.result.1 c.args.core
    c.erase_at.result.0) is c.erase_at.ensures.periods
