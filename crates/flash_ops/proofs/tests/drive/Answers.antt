use Rattle.std.proofs.Common.{◌∙◌, ap}
use Rattle.bus_hub.specs.declared.did.Base.{Base}
use Rattle.bus_hub.specs.declared.did.Did.{Did}
use Rattle.cache_gate.specs.Own.{Own}
use Rattle.flash_ops.proofs.tests.drive.Goals as goal

-- each call leaves the core the same one
pub returns-clause-table : goal.returns-clause-table
returns-clause-table g c =
    ap (λ (z : Own (Base _ _) Did). z.table) (c.read-core.ensures.ran 0).adds.is
    ∙ (c.write_three-core.ensures.spends.table ∙ c.erase_one-core.ensures.spends.table)

pub returns-clause-core : goal.returns-clause-core
returns-clause-core g c =
    ap (λ (z : Own (Base _ _) Did). z.core) (c.read-core.ensures.ran 0).adds.is
    ∙ (c.write_three-core.ensures.spends.core ∙ c.erase_one-core.ensures.spends.core)

pub returns-clause-base : goal.returns-clause-base
returns-clause-base g c =
    ap (λ (z : Own (Base _ _) Did). z.base) (c.read-core.ensures.ran 0).adds.is
    ∙ (c.write_three-core.ensures.spends.base ∙ c.erase_one-core.ensures.spends.base)
