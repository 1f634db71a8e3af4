use Rattle.std.proofs.Common.{sym, subst, lit<, lit≤}
use Rattle.image_layout.specs.declared.space.Space.TheVariants.{Data}
use Rattle.mmu_map.specs.Map.{Map, IsFreeRun}
use Rattle.mmu_map.proofs.Empty.{empty_is_free}
use Rattle.duo_run.proofs.tests.gates.Goals as goal

-- a new map is empty
pub fix-requires-clause-free : goal.fix-requires-clause-free
fix-requires-clause-free c =
    subst (λ (m : Map). IsFreeRun m 0x3F400000 1) (sym c.new-pages.ensures.exact)
    (empty_is_free Data 0 1 (lit< tt) (lit≤ tt))
