use Rattle.std.proofs.Common.{rules, ◌≡◌, ◌∙◌, ℕ, ap, arith, length, sym, subst, lit<, lit≤}
use Rattle.image_layout.specs.declared.space.Space.TheVariants.{Data}
use Rattle.mmu_map.specs.Map.{Map, IsFreeRun, IsWhole, empty, fixed}
use Rattle.mmu_map.proofs.Empty.{empty_is_free}
use Rattle.mmu_map.proofs.Addresses.{empty_good}
use Rattle.nor_device.specs.declared.ram.RamNor.{RamNor}
use Rattle.bus_hub.specs.Hub.{Hub}
use Rattle.bus_hub.specs.Fetch.{IsFixed, IsServed}
use Rattle.bus_hub.proofs.Fixing.{range_there}
use Rattle.flash_ops.proofs.Can.{look_first}
use Rattle.flash_ops.proofs.tests.gates.Goals as goal

-- a new map is empty
first_free : (m : Map) → m ≡ empty → IsFreeRun m 0x3F400000 1
first_free m is =
    subst (λ (m : Map). IsFreeRun m 0x3F400000 1) (sym is)
    (empty_is_free Data 0 1 (lit< tt) (lit≤ tt))

pub fix-requires-clause-free : goal.fix-requires-clause-free
fix-requires-clause-free c = first_free c.new-pages.result c.new-pages.ensures.exact

-- both bits of the mask are set
served : IsServed 3 0x3F400000
served none = search (none, rules)

-- the first page is fixed, and in the flash
pub returns-in-Ok-open-clause-look : goal.returns-in-Ok-open-clause-look
returns-in-Ok-open-clause-look c =
    let bus = c.new-bus.result in
    let pages = c.new-pages.result in
    let whole : IsWhole pages = subst IsWhole (sym c.new-pages.ensures.exact) empty_good in
    let map_is : bus.map ≡ fixed pages 0x3F400000 0 1 =
    ap (λ (h : Hub RamNor _). h.map) c.new-bus.ensures.exact ∙ c.fix.ensures.exact in
    let size_is : length bus.dev.bytes ≡ 1048576 =
    ap (λ (h : Hub RamNor _). length h.dev.bytes) c.new-bus.ensures.exact
    ∙ (ap length c.of_bytes.ensures.bytes ∙ c.in-Ok.ensures.length) in
    look_first _ 0 0x3F400000 _ _ c.in-Ok-open.ensures.left
    (subst (λ (z : Map × ℕ). IsFixed z.0 z.1 0x3F400000 4) (λ i. (sym map_is i, sym size_is i))
    (range_there pages 0x3F400000 0 1 1048576 0x3F400000 4 whole
    (first_free pages c.new-pages.ensures.exact) (omega arith) (omega arith) (omega arith))) served
