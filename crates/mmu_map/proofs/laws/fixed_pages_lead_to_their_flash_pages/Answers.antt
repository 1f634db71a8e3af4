use Rattle.mmu_map.proofs.Fixed.{fixed_there, leads_there}
use Rattle.mmu_map.proofs.laws.fixed_pages_lead_to_their_flash_pages.Goals as goal

pub returns-clause-fixed : goal.returns-clause-fixed
returns-clause-fixed c = fixed_there

pub returns-clause-leads : goal.returns-clause-leads
returns-clause-leads c = leads_there
