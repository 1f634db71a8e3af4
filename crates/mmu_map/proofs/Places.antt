-- The page in which an address lies.
use Rattle.std.specs.Prelude.{◌≡◌, ◌⊎◌, ℕ, ◌+◌, ◌-◌, ◌/◌, ◌%◌, ◌<◌, ◌≤◌, Some, None, true, false, refl}
use Rattle.std.proofs.Common.{◌∙◌, ap, inl, inr, arith}
use Rattle.std.proofs.lemmas.Bool.{cases_lt}
use Rattle.std.proofs.lemmas.Bool.Decides.{nat_tests}
use Rattle.image_layout.specs.declared.space.Space.{Space}
use Rattle.image_layout.specs.declared.space.Space.TheVariants.{Data, Code}
use Rattle.image_layout.specs.Space.{is_data, is_code}
use Rattle.mmu_map.specs.Place.{place, place_of, pages_in, address_of}

-- an address of the data space
in_data : (at : ℕ) → 0x3F400000 ≤ at → at < 0x3F800000 → is_data at ≡ true
unfolding is_data
in_data at from to = grind (arith, nat_tests)

-- one of the code space
in_code : (at : ℕ) → 0x400D0000 ≤ at → at < 0x40400000 → is_code at ≡ true
unfolding is_code
in_code at from to = grind (arith, nat_tests)

-- others
above_data : (at : ℕ) → 0x3F800000 ≤ at → is_data at ≡ false
unfolding is_data
above_data at from = grind (arith, nat_tests)

below_data : (at : ℕ) → at < 0x3F400000 → is_data at ≡ false
unfolding is_data
below_data at to = grind (arith, nat_tests)

above_code : (at : ℕ) → 0x40400000 ≤ at → is_code at ≡ false
unfolding is_code
above_code at from = grind (arith, nat_tests)

below_code : (at : ℕ) → at < 0x400D0000 → is_code at ≡ false
unfolding is_code
below_code at to = grind (arith, nat_tests)

-- the page of an address in each space
place_data : (at : ℕ) → 0x3F400000 ≤ at → at < 0x3F800000
    → place_of at ≡ Some (place Data ((at - 0x3F400000) / 65536))
place_data at from to = rw (in_data at from to) refl

place_code : (at : ℕ) → 0x400D0000 ≤ at → at < 0x40400000
    → place_of at ≡ Some (place Code ((at - 0x400D0000) / 65536))
place_code at from to = rw (above_data at (omega arith), in_code at from to) refl

-- an address of a page lies in that page
pub place_in : (space : Space) (page a : ℕ) → page < pages_in space → address_of space page ≤ a
    → a < address_of space page + 65536 → place_of a ≡ Some (place space page)
place_in Data page a inside from to =
    place_data a (omega arith) (omega arith) ∙ ap (λ (k : ℕ). Some (place Data k)) (omega arith)
place_in Code page a inside from to =
    place_code a (omega arith) (omega arith) ∙ ap (λ (k : ℕ). Some (place Code k)) (omega arith)

-- the page at the address of a page is that page
pub place_of_address : (space : Space) (page : ℕ) → page < pages_in space
    → place_of (address_of space page) ≡ Some (place space page)
place_of_address space page inside =
    place_in space page (address_of space page) inside (omega arith) (omega arith)

-- an address lies in a page or in none
pub record LiesIn (a : ℕ) : Type 0 where
  pub space : Space
  pub page : ℕ
  pub is : place_of a ≡ Some (place space page)
  pub inside : page < pages_in space
  pub from : address_of space page ≤ a
  pub to : a < address_of space page + 65536

pub lies : (a : ℕ) → (place_of a ≡ None) ⊎ LiesIn a
lies a = elim (cases_lt a 0x3F400000) [
  | inl low ↦ inl (rw (below_data a low, below_code a (omega arith)) refl)
  | inr from ↦ elim (cases_lt a 0x3F800000) [
    | inl to ↦ inr (record {
      space = Data;
      page = (a - 0x3F400000) / 65536;
      is = place_data a from to;
      inside = omega arith;
      from = omega arith;
      to = omega arith;
    })
    | inr past ↦ elim (cases_lt a 0x400D0000) [
      | inl between ↦ inl (rw (above_data a past, below_code a between) refl)
      | inr there ↦ elim (cases_lt a 0x40400000) [
        | inl inside ↦ inr (record {
          space = Code;
          page = (a - 0x400D0000) / 65536;
          is = place_code a there inside;
          inside = omega arith;
          from = omega arith;
          to = omega arith;
        })
        | inr above ↦ inl (rw (above_data a past, above_code a above) refl)
      ]
    ]
  ]
]

-- the address of a page's start is that of the page
pub starts_page : (space : Space) (page at : ℕ) → at % 65536 ≡ 0 → address_of space page ≤ at
    → at < address_of space page + 65536 → at ≡ address_of space page
starts_page Data page at start from to = omega arith
starts_page Code page at start from to = omega arith
