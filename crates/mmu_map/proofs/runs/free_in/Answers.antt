use Rattle.mmu_map.proofs.Whole.{freed_is, freed_put}
use Rattle.mmu_map.proofs.runs.free_in.Goals as goal

-- as many pages are freed as were mapped together
pub returns-clause-exact : goal.returns-clause-exact
returns-clause-exact c =
    freed_is c.args.uses.now c.put_free.new.part c.args.first c.in-First.flash_page c.in-First.n
    c.requires.whole c.in-First.is c.put_free.ensures.exact

-- no other run reaches into them
pub returns-clause-whole : goal.returns-clause-whole
returns-clause-whole c =
    freed_put c.args.uses.now c.put_free.new.part c.args.first c.in-First.flash_page c.in-First.n
    c.requires.whole c.in-First.is c.put_free.ensures.exact
