use Rattle.mmu_map.proofs.Addresses.{each_leads}
use Rattle.mmu_map.proofs.laws.each_address_goes_by_its_calls.Goals as goal

-- by induction over the calls, for each address alone
pub returns : goal.returns
returns c = each_leads
