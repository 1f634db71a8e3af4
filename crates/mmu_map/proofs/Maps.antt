-- What the calls make of the map.
use Rattle.std.specs.Prelude.{◌≡◌, ℕ, ◌%◌, ◌<◌, replicate, Option, Some, Result, Ok, Err, refl}
use Rattle.std.proofs.Common.{◌∙◌, sym, ap, subst}
use Rattle.image_layout.specs.declared.space.Space.{Space}
use Rattle.image_layout.specs.declared.space.Space.TheVariants.{Data, Code}
use Rattle.mmu_map.specs.declared.place.Place.{Place}
use Rattle.mmu_map.specs.declared.runs.NotMapped.{NotMapped}
use Rattle.mmu_map.specs.Place.{place_of, pages_in, address_of}
use Rattle.mmu_map.specs.declared.page_use.PageUse.TheVariants.{Free}
use Rattle.mmu_map.specs.Runs.{IsFound, after_found, IsFreed, after_freed, mapped_run, run_length}
use Rattle.mmu_map.proofs.Places.{place_of_address}
use Rattle.mmu_map.specs.Map.{Map, uses_in, with_uses, IsMapAnswer, after_map, IsUnmapAnswer, after_unmap, with_run_at, use_in, IsRunIn}

-- the answer of `map`, by that of its space
pub map_answer : (m : Map) (n page at : ℕ) (space : Space) → at ≡ address_of space page
    → IsFound (uses_in m space) n (Ok page) → IsMapAnswer m n space (Ok at)
map_answer m n page at space is found = (page, is, found)

-- the map after it
pub map_exact : (m after : Map) (f n page at : ℕ) (space : Space) → at ≡ address_of space page
    → page < pages_in space
    → after ≡ with_uses m space (after_found (uses_in m space) f n (Ok page))
    → after ≡ after_map m f n (Ok at)
map_exact m after f n page at space is inside exact =
    exact ∙ sym (ap (λ (k : ℕ). after_map m f n (Ok k)) is
    ∙ ap (λ (p : Option Place). with_run_at m p (mapped_run f n)) (place_of_address space page
    inside))

-- the answer of `unmap`, by that of its space
pub unmap_answer : (m : Map) (at : ℕ) (p : Place) (r : Result (Unit {0}) NotMapped)
    → at % 65536 ≡ 0 → place_of at ≡ Some p → IsFreed (uses_in m p.space) p.page r
    → IsUnmapAnswer m at r
unmap_answer m at p (Ok u) starts is found = (
  found.0,
  record {
    page_start = starts;
    run = subst (λ (q : Option Place). IsRunIn m q found.0) (sym is) found.1;
  },
)
unmap_answer m at p (Err e) starts is none = λ n run. none n
    (subst (λ (q : Option Place). IsRunIn m q n) is run.run)

-- the map after it
pub unmap_exact : (m after : Map) (at : ℕ) (p : Place) (r : Result (Unit {0}) NotMapped)
    → place_of at ≡ Some p
    → after ≡ with_uses m p.space (after_freed (uses_in m p.space) p.page r)
    → after ≡ after_unmap m at r
unmap_exact m after at p (Ok u) is exact =
    exact ∙ ap (λ (q : Option Place). with_run_at m q (replicate (run_length (use_in m q)) Free))
    (sym is)
unmap_exact m after at p (Err e) is exact = exact ∙ same m p.space where
  same : (m : Map) (space : Space) → with_uses m space (uses_in m space) ≡ m
  same m Data = refl
  same m Code = refl
