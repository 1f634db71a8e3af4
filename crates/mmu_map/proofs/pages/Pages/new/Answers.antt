use Rattle.mmu_map.proofs.Whole.{whole_none, free_none}
use Rattle.mmu_map.proofs.pages.Pages.new.Goals as goal

-- no page is the first of a run
pub invariant_of-result : goal.invariant_of-result
invariant_of-result c = record {
  data_whole = whole_none _ (free_none 64);
  code_whole = whole_none _ (free_none 51);
}
