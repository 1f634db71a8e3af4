-- The steps of a call by their numbers.
use Rattle.std.proofs.Common.{◌≡◌, ◌≤◌, ◌<◌, ℕ, zero, suc, ◌+◌, ◌-◌, ◌/◌, List, [], ◌∷◌, ◌++◌, length, slice_get, Option, None, Some, refl, ap, ◌∙◌, arith}
use Rattle.std.specs.Prelude.{IsNone, IsSome, ◌↔◌}
use Rattle.std.proofs.lemmas.Option.{slice_get_past}
use Rattle.nor_device.specs.declared.step.Step.{Step}
use Rattle.nor_device.specs.declared.step.Step.TheVariants.{Erase, Program}
use Rattle.flash_steps.specs.Steps.{erase_steps, erases}
use Rattle.flash_steps.proofs.EraseLemmas.{count_of_erase}
use Rattle.nvs_keys.specs.declared.bank.Bank.TheVariants.{First}
use Rattle.nvs_keys.specs.declared.place.Place.{Place}
use Rattle.nvs_keys.specs.Banks.{header_bytes}
use Rattle.nvs_keys.specs.Steps.{format_steps, header_steps}

-- ---- items by their places

get_left : (xs ys : List Step) (k : ℕ) → k < length xs → slice_get (xs ++ ys) k ≡ slice_get xs k
get_left [] ys k inside = absurd (omega arith)
get_left (x ∷ xs) ys zero inside = refl
get_left (x ∷ xs) ys (suc k) inside = get_left xs ys k (omega arith)

get_right : (xs ys : List Step) (k n : ℕ) → n ≡ length xs + k → slice_get (xs ++ ys) n ≡ slice_get ys k
get_right [] ys k n is = let same : n ≡ k = omega arith in ap (slice_get ys) same
get_right (x ∷ xs) ys k zero is = absurd (omega arith)
get_right (x ∷ xs) ys k (suc n) is = get_right xs ys k n (omega arith)

-- ---- erases

erase_nth : (n sector k : ℕ) → k < n → slice_get (erases n sector) k ≡ Some (Erase (sector + k))
unfolding erases
erase_nth zero sector k inside = absurd (omega arith)
erase_nth (suc n) sector zero inside =
    let here : sector ≡ sector + zero = omega arith in ap (λ (s : ℕ). Some (Erase s)) here
erase_nth (suc n) sector (suc k) inside =
    let here : sector + 1 + k ≡ sector + suc k = omega arith in
    erase_nth n (sector + 1) k (omega arith) ∙ ap (λ (s : ℕ). Some (Erase s)) here

-- the erase of this number
pub erase_there : (at len k : ℕ) → k < len / 4096
    → slice_get (erase_steps at len) k ≡ Some (Erase (at / 4096 + k))
unfolding erase_steps
erase_there at len k inside = erase_nth (len / 4096) (at / 4096) k inside

pub erase_past : (at len k : ℕ) → len / 4096 ≤ k → slice_get (erase_steps at len) k ≡ None
erase_past at len k past = slice_get_past (erase_steps at len) k (omega (arith, count_of_erase at len))

-- ---- a format

pub format_erase : (p : Place) (n : ℕ) → 1 ≤ n → n ≤ p.half / 4096
    → slice_get (format_steps p) n ≡ slice_get (erase_steps p.at p.half) (n - 1)
format_erase p n some most =
    let next : n ≡ suc (n - 1) = omega arith in
    ap (slice_get (format_steps p)) next
    ∙ get_left (erase_steps p.at p.half) (header_steps p First 1) (n - 1) (omega (arith, count_of_erase p.at p.half))

pub format_header : (p : Place) (n : ℕ) → n ≡ p.half / 4096 + 1
    → slice_get (format_steps p) n ≡ Some (Program p.at (header_bytes 1))
format_header p n is =
    let next : n ≡ suc (n - 1) = omega arith in
    ap (slice_get (format_steps p)) next
    ∙ get_right (erase_steps p.at p.half) (header_steps p First 1) 0 (n - 1) (omega (arith, count_of_erase p.at p.half))

pub format_past : (p : Place) (n : ℕ) → p.half / 4096 + 1 < n → slice_get (format_steps p) n ≡ None
format_past p n past =
    let next : n ≡ suc (n - 1) = omega arith in
    let k : ℕ = n - 1 - p.half / 4096 in
    ap (slice_get (format_steps p)) next
    ∙ get_right (erase_steps p.at p.half) (header_steps p First 1) k (n - 1) (omega (arith, count_of_erase p.at p.half))
    ∙ slice_get_past (header_steps p First 1) k (omega arith)

-- a page is made of bytes that are one
pub is_page : (made : Option (List ℕ)) (P : Type 0) → (IsNone made ↔ (P → ⊥)) → P → IsSome made
is_page None P none is = absurd (none.0 refl is)
is_page (Some page) P none is = refl
