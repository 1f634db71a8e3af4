use Rattle.mmu_map.proofs.InPage.{in_page}
use Rattle.mmu_map.proofs.laws.a_page_leads_to_one_flash_page.Goals as goal

pub returns : goal.returns
returns c = in_page
