-- How the fields of the pages show in a contract.
use Rattle.mmu_map.specs.declared.pages.Pages.TheInside.{Inside}
use Rattle.mmu_map.specs.Runs.{AreWhole}
use Rattle.mmu_map.specs.Map.{Map}

-- the uses of the pages of each space
abbrev pub map_of : Inside → Map
map_of p = record { data_uses = p.data_uses; code_uses = p.code_uses }

-- every run that was mapped lies inside its space and meets no other one
pub record IsPages (p : Inside) : Type 0 where
  pub data_whole : AreWhole p.data_uses
  pub code_whole : AreWhole p.code_uses
