use Rattle.std.proofs.Common.{sym, subst, lit<, lit≤}
use Rattle.image_layout.specs.declared.space.Space.TheVariants.{Data}
use Rattle.mmu_map.specs.Map.{Map, IsFreeRun}
use Rattle.mmu_map.proofs.Empty.{empty_is_free}
use Rattle.mmu_map.proofs.tests.a_fixed_run_stays.Goals as goal

-- a new map is empty
pub fix-requires-clause-free : goal.fix-requires-clause-free
fix-requires-clause-free g c =
    subst (λ (m : Map). IsFreeRun m 0x3F400000 2) (sym c.new-pages.ensures.exact)
    (empty_is_free Data 0 2 (lit< tt) (lit≤ tt))
