use Rattle.mmu_map.proofs.Fixed.{stays_all}
use Rattle.mmu_map.proofs.laws.what_is_fixed_stays.Goals as goal

-- by induction over the calls
pub returns : goal.returns
returns c = λ m calls at good can is_fixed. stays_all calls m good can at is_fixed
