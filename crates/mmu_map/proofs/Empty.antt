-- On the empty map every run of pages inside a space is free.
use Rattle.std.specs.Prelude.{◌≡◌, ℕ, ◌+◌, ◌%◌, ◌<◌, ◌≤◌, Option}
use Rattle.std.proofs.Common.{sym, subst, arith}
use Rattle.std.proofs.Math.ListN.{length-replicate, get_or-replicate}
use Rattle.image_layout.specs.declared.space.Space.{Space}
use Rattle.image_layout.specs.declared.space.Space.TheVariants.{Data, Code}
use Rattle.mmu_map.specs.declared.page_use.PageUse.TheVariants.{Free}
use Rattle.mmu_map.specs.declared.place.Place.{Place}
use Rattle.mmu_map.specs.Place.{pages_in, address_of}
use Rattle.mmu_map.specs.Runs.{AreFree}
use Rattle.mmu_map.specs.Map.{empty, uses_in, AreFreeFrom, IsFreeRun}
use Rattle.mmu_map.proofs.Places.{place_of_address}

-- in each space
free_in_empty : (space : Space) (page n : ℕ) → page + n ≤ pages_in space
    → AreFree (uses_in empty space) page n
free_in_empty Data page n within = record {
  within = omega (arith, within, length-replicate 64 Free);
  free = λ i from to. get_or-replicate 64 i Free Free (omega arith);
}
free_in_empty Code page n within = record {
  within = omega (arith, within, length-replicate 51 Free);
  free = λ i from to. get_or-replicate 51 i Free Free (omega arith);
}

-- an address of a page's start
pub page_start : (space : Space) (page : ℕ) → address_of space page % 65536 ≡ 0
page_start Data page = omega arith
page_start Code page = omega arith

-- a run at the address of a page
pub empty_is_free : (space : Space) (page n : ℕ) → page < pages_in space
    → page + n ≤ pages_in space → IsFreeRun empty (address_of space page) n
empty_is_free space page n inside within = record {
  page_start = page_start space page;
  free = subst (λ (p : Option Place). AreFreeFrom empty p n)
      (sym (place_of_address space page inside)) (free_in_empty space page n within);
}
