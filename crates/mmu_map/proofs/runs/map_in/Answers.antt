use Rattle.mmu_map.proofs.Whole.{mapped_put}
use Rattle.mmu_map.proofs.runs.map_in.Goals as goal

-- no run that was mapped reaches into free pages, and the new one is whole
pub returns-clause-whole : goal.returns-clause-whole
returns-clause-whole c =
    mapped_put c.args.uses.now c.put_mapped.new.part c.in-Ok.first c.args.flash_page c.args.n
    c.requires.whole c.in-Ok.ensures.ok c.put_mapped.ensures.exact
