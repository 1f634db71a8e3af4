-- Addresses of one page lead to addresses of one flash page.
use Rattle.std.specs.Prelude.{◌≡◌, ℕ, ◌+◌, ◌*◌, ◌%◌, ◌<◌, ◌≤◌, Option, Some, None}
use Rattle.std.proofs.Common.{◌∙◌, sym, ap, inl, inr, arith}
use Rattle.image_layout.specs.declared.space.Space.{Space}
use Rattle.image_layout.specs.declared.space.Space.TheVariants.{Data, Code}
use Rattle.mmu_map.specs.declared.place.Place.{Place}
use Rattle.mmu_map.specs.Place.{place, place_of, address_of}
use Rattle.mmu_map.specs.Runs.{flash_page_of}
use Rattle.mmu_map.specs.Map.{Map, use_in, translated, flash_address}
use Rattle.mmu_map.proofs.Places.{place_in, lies}

-- an address further on in the same page
still_in : (space : Space) (page at i : ℕ) → address_of space page ≤ at
    → at < address_of space page + 65536 → at % 65536 + i < 65536
    → at + i < address_of space page + 65536
still_in Data page at i from to small = omega arith
still_in Code page at i from to small = omega arith

-- the same flash page, further on
further : (page : Option ℕ) (at i to : ℕ) → at % 65536 + i < 65536
    → flash_address at page ≡ Some to → flash_address (at + i) page ≡ Some (to + i)
further None at i to small is = cc
further (Some page) at i to small is =
    let e : page * 65536 + at % 65536 ≡ to = some_is (page * 65536 + at % 65536) to is in
    ap (λ (k : ℕ). Some k) (omega arith) where
      some_is : (a b : ℕ) → Some a ≡ Some b → a ≡ b
      some_is a b e = cc

-- an address of no page leads nowhere
nowhere : (m : Map) (at to : ℕ) → place_of at ≡ None → translated m at ≡ Some to → ⊥
nowhere m at to none is =
    let e : ◌≡◌ {A = Option ℕ} None (Some to) =
    sym (ap (λ (p : Option Place). flash_address at (flash_page_of (use_in m p))) none) ∙ is in
    cc

-- an address further on in the same page leads as much further on
pub in_page : (m : Map) (at i to : ℕ) → translated m at ≡ Some to → at % 65536 + i < 65536
    → translated m (at + i) ≡ Some (to + i)
in_page m at i to is small = elim (lies at) [
  | inl none ↦ absurd (nowhere m at to none is)
  | inr l ↦
      let there : place_of (at + i) ≡ Some (place l.space l.page) =
      place_in l.space l.page (at + i) l.inside (omega (arith, l.from))
      (still_in l.space l.page at i l.from l.to small) in
      let same : place_of (at + i) ≡ place_of at = there ∙ sym l.is in
      ap (λ (p : Option Place). flash_address (at + i) (flash_page_of (use_in m p))) same
      ∙ further (flash_page_of (use_in m (place_of at))) at i to small is
]
