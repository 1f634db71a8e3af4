use Rattle.mmu_map.proofs.Whole.{fixed_put}
use Rattle.mmu_map.proofs.runs.fix_in.Goals as goal

-- no run that was mapped reaches into free pages
pub returns-clause-whole : goal.returns-clause-whole
returns-clause-whole c =
    fixed_put c.args.uses.now c.put_fixed.new.part c.args.first c.args.flash_page c.args.n
    c.requires.whole c.requires.free c.put_fixed.ensures.exact
