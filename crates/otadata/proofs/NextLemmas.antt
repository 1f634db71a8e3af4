-- The next sequence for a slot names it, and is the least that does from the active one on.
use Rattle.std.proofs.Common.{◌≡◌, ℕ, ◌+◌, ◌-◌, ◌*◌, ◌/◌, ◌%◌, ◌<◌, ◌≤◌, ◌⊎◌, inl, inr, Some, ap, ◌∙◌, arith}
use Rattle.std.proofs.Math.Nat.{mod-add-div', mod-eq_of_lt, mod-lt, mul-le-mul_right}
use Rattle.std.proofs.lemmas.Nat.{mod-mul-add}
use Rattle.std.proofs.lemmas.Bool.{cases_lt}
use Rattle.otadata.specs.Choice.{slot_named}
use Rattle.otadata.specs.Next.{Follows, next_seq}

-- the way from a slot to one that does not come before it, round
gap-up : (n slot r : ℕ) → slot < n → r ≤ slot → (slot + n - r) % n ≡ slot - r
gap-up n slot r within up =
    let turned : slot + n - r ≡ 1 * n + (slot - r) = omega arith in
    ap (λ x. x % n) turned ∙ mod-mul-add 1 n (slot - r) (omega arith)

-- the way from a slot to one that comes before it, round
gap-down : (n slot r : ℕ) → slot < r → r < n → (slot + n - r) % n ≡ slot + n - r
gap-down n slot r down within = mod-eq_of_lt (omega arith)

-- a number of so many turns and a rest that is added to it
named_at : (n q slot seq : ℕ) → slot < n → seq ≡ q * n + slot + 1 → slot_named seq n ≡ slot
named_at n q slot seq within is =
    let less : seq - 1 ≡ q * n + slot = omega arith in
    ap (λ x. x % n) less ∙ mod-mul-add q n slot within

-- the next sequence, by the turns of the active one
next_at : (n seq slot q r : ℕ) → slot < n → r < n → slot_named seq n ≡ r → seq ≡ q * n + r + 1
    → (next_seq n (Some seq) slot ≡ q * n + slot + 1) × (r ≤ slot)
    ⊎ (next_seq n (Some seq) slot ≡ (q + 1) * n + slot + 1) × (slot < r)
next_at n seq slot q r within rest named is = at (cases_lt slot r)
  where
    at : (slot < r) ⊎ (r ≤ slot)
        → (next_seq n (Some seq) slot ≡ q * n + slot + 1) × (r ≤ slot)
        ⊎ (next_seq n (Some seq) slot ≡ (q + 1) * n + slot + 1) × (slot < r)
    at (inl down) =
        let gap = ap (λ x. (slot + n - x) % n) named ∙ gap-down n slot r down rest in
        inr (omega arith, down)
    at (inr up) =
        let gap = ap (λ x. (slot + n - x) % n) named ∙ gap-up n slot r within up in
        inl (omega arith, up)

-- the turns of a sequence
turns : (n seq : ℕ) → 0 < seq → seq ≡ (seq - 1) / n * n + slot_named seq n + 1
turns n seq numbered = omega (arith, mod-add-div' (seq - 1) n)

-- the next sequence names the slot, and is not below the active one
pub next-follows : (n seq slot : ℕ) → 0 < seq → slot < n → Follows n seq slot (next_seq n (Some seq) slot)
next-follows n seq slot numbered within =
    let q = (seq - 1) / n in
    let r = slot_named seq n in
    let is : seq ≡ q * n + r + 1 = turns n seq numbered in
    elim (next_at n seq slot q r within (mod-lt (seq - 1) (omega arith)) (λ i. r) is) [
      | inl up ↦ record { names = named_at n q slot (next_seq n (Some seq) slot) within up.0; not_below = omega arith }
      | inr down ↦ record { names = named_at n (q + 1) slot (next_seq n (Some seq) slot) within down.0; not_below = omega arith }
    ]

-- turns in order: a number of turns that is less is a whole turn less
turn_less : (n p q : ℕ) → p < q → (p + 1) * n ≤ q * n
turn_less n p q less = mul-le-mul_right n (omega arith)

-- no lesser sequence names the slot without being below the active one
pub next-least : (n seq slot other : ℕ) → 0 < seq → slot < n → Follows n seq slot other → next_seq n (Some seq) slot ≤ other
next-least n seq slot other numbered within follows =
    let q = (seq - 1) / n in
    let r = slot_named seq n in
    let p = (other - 1) / n in
    let not_below : seq ≤ other = follows.not_below in
    let rest : r < n = mod-lt (seq - 1) (omega arith) in
    let is : seq ≡ q * n + r + 1 = turns n seq numbered in
    let that : other ≡ p * n + slot + 1 = omega (arith, turns n other (omega arith), follows.names) in
    elim (next_at n seq slot q r within rest (λ i. r) is) [
      | inl up ↦ elim (cases_lt p q) [
        | inl less ↦ let turn = turn_less n p q less in omega arith
        | inr more ↦ let turn : q * n ≤ p * n = mul-le-mul_right n more in omega arith
      ]
      | inr down ↦ elim (cases_lt q p) [
        | inl less ↦ let turn = turn_less n q p less in omega arith
        | inr more ↦ let turn : p * n ≤ q * n = mul-le-mul_right n more in omega arith
      ]
    ]
