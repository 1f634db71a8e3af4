-- Bytes that are covered by sectors, one by one.
use Rattle.std.proofs.Common.{◌≡◌, ℕ, ◌+◌, ◌*◌, ◌/◌, ◌-◌, ◌<◌, ◌≤◌, min, Bool, true, false, ◌&&◌, cond, eqb, nat_lt, nat_le, List, length, drop, get_or, refl, sym, ◌∙◌, ap, inl, inr, arith, ext_get_or, length-drop, eq-eqb, ne_eqb}
use Rattle.std.proofs.lemmas.List.{length-take, get_or-take, get_or-drop}
use Rattle.std.proofs.lemmas.List.FromFn.{length-map-range_with_len, get_or-map-range_with_len}
use Rattle.std.proofs.lemmas.Bool.{cases_eq, cases_order}
use Rattle.std.proofs.lemmas.Bool.Decides.{nat_tests}
use Rattle.nor_device.specs.Flash.{erased}
use Rattle.nor_device.specs.Marks.{covered}
use Rattle.nor_device.specs.Nor.{part_of}
use Rattle.nor_device.proofs.EraseLaws.{length-erased, get_or-erased}

-- a byte that is covered where its sector is
abbrev pub covered_byte : (ℕ → Bool) → ℕ → ℕ → ℕ
covered_byte test i byte = cond (test (i / 4096)) 255 byte

pub length-covered : (test : ℕ → Bool) (at : ℕ) (bytes : List ℕ)
    → length (covered test at bytes) ≡ length bytes
unfolding covered
length-covered test at bytes =
    length-map-range_with_len (λ k. covered_byte test (at + k) (get_or bytes k 0)) 0 (length bytes)

pub get_or-covered : (test : ℕ → Bool) (at : ℕ) (bytes : List ℕ) (k : ℕ) → k < length bytes
    → get_or (covered test at bytes) k 0 ≡ covered_byte test (at + k) (get_or bytes k 0)
unfolding covered
get_or-covered test at bytes k inside =
    get_or-map-range_with_len (λ k. covered_byte test (at + k) (get_or bytes k 0)) 0 (length bytes)
    k k 0 inside (omega arith)

-- bytes that are covered are those that have at each place what a covered byte is
pub is_covered : (test : ℕ → Bool) (at : ℕ) (bytes new : List ℕ) → length new ≡ length bytes
    → ((k : ℕ) → k < length bytes → get_or new k 0 ≡ covered_byte test (at + k) (get_or bytes k 0))
    → new ≡ covered test at bytes
is_covered test at bytes new len each =
    ext_get_or 0 new (covered test at bytes) (len ∙ sym (length-covered test at bytes)) (λ k h.
    let inside : k < length bytes = omega (arith, h, len) in
    each k inside ∙ sym (get_or-covered test at bytes k inside))

-- the same of a whole flash
pub get_or-covered_flash : (test : ℕ → Bool) (flash : List ℕ) (k : ℕ) → k < length flash
    → get_or (covered test 0 flash) k 0 ≡ covered_byte test k (get_or flash k 0)
get_or-covered_flash test flash k inside =
    let zero_more : 0 + k ≡ k = omega arith in
    get_or-covered test 0 flash k inside
    ∙ ap (λ (i : ℕ). covered_byte test i (get_or flash k 0)) zero_more

pub is_covered_flash : (test : ℕ → Bool) (flash new : List ℕ) → length new ≡ length flash
    → ((k : ℕ) → k < length flash → get_or new k 0 ≡ covered_byte test k (get_or flash k 0))
    → new ≡ covered test 0 flash
is_covered_flash test flash new len each =
    ext_get_or 0 new (covered test 0 flash) (len ∙ sym (length-covered test 0 flash)) (λ k h.
    let inside : k < length flash = omega (arith, h, len) in
    each k inside ∙ sym (get_or-covered_flash test flash k inside))

-- nothing is covered where no sector of the bytes is
pub covered_none : (test : ℕ → Bool) (at : ℕ) (bytes : List ℕ)
    → ((k : ℕ) → k < length bytes → test ((at + k) / 4096) ≡ false) → bytes ≡ covered test at bytes
covered_none test at bytes none =
    is_covered test at bytes bytes refl
    (λ k inside. ap (λ (b : Bool). cond b 255 (get_or bytes k 0)) (sym (none k inside)))

-- the sectors of the bytes decide
pub covered_same : (test other : ℕ → Bool) (at : ℕ) (bytes : List ℕ)
    → ((k : ℕ) → k < length bytes → test ((at + k) / 4096) ≡ other ((at + k) / 4096))
    → covered test at bytes ≡ covered other at bytes
covered_same test other at bytes same =
    is_covered other at bytes (covered test at bytes) (length-covered test at bytes)
    (λ k inside. get_or-covered test at bytes k inside
    ∙ ap (λ (b : Bool). cond b 255 (get_or bytes k 0)) (same k inside))

-- a test of the sectors below one, and of that one
more : (test : ℕ → Bool) (n s byte : ℕ) → test n ≡ true
    → cond (eqb s n) 255 (cond (nat_lt s n && test s) 255 byte)
    ≡ cond (nat_lt s (n + 1) && test s) 255 byte
more test n s byte is = elim (cases_eq s n) [
  | inl same ↦ rw same
      (let here : eqb n n ≡ true = eq-eqb n n refl in
      let below : nat_lt n (n + 1) ≡ true = grind (arith, nat_tests) in
      rw (here, below, is) refl)
  | inr other ↦
      let away : eqb s n ≡ false = ne_eqb s n other in
      let below : nat_lt s (n + 1) ≡ nat_lt s n = grind (arith, nat_tests) in
      rw (away, below) refl
]

-- the sectors below one, and then that one
pub covered_more : (test : ℕ → Bool) (n at : ℕ) (bytes : List ℕ) → test n ≡ true
    → covered (λ s. eqb s n) at (covered (λ s. nat_lt s n && test s) at bytes)
    ≡ covered (λ s. nat_lt s (n + 1) && test s) at bytes
covered_more test n at bytes is =
    let low : ℕ → Bool = λ s. nat_lt s n && test s in
    let next : ℕ → Bool = λ s. nat_lt s (n + 1) && test s in
    let first = covered low at bytes in
    is_covered next at bytes (covered (λ s. eqb s n) at first)
    (length-covered (λ s. eqb s n) at first ∙ length-covered low at bytes)
    (λ k inside.
    let there : k < length first = omega (arith, inside, length-covered low at bytes) in
    get_or-covered (λ s. eqb s n) at first k there
    ∙ ap (λ (b : ℕ). cond (eqb ((at + k) / 4096) n) 255 b) (get_or-covered low at bytes k inside)
    ∙ more test n ((at + k) / 4096) (get_or bytes k 0) is)

-- a part of a flash that is covered
pub covered_part : (test : ℕ → Bool) (flash : List ℕ) (at len : ℕ) → at + len ≤ length flash
    → covered test at (part_of flash at len) ≡ part_of (covered test 0 flash) at len
covered_part test flash at len inside =
    let part = part_of flash at len in
    let all = covered test 0 flash in
    let long : length part ≡ len =
    omega (arith, length-take len (drop at flash), length-drop at flash) in
    sym (is_covered test at part (part_of all at len)
    (omega (
      arith,
      long,
      length-covered test 0 flash,
      length-take len (drop at all),
      length-drop at all,
    ))
    (λ k h.
    let short : k < len = omega (arith, h, long) in
    let there : at + k < length flash = omega arith in
    get_or-take len (drop at all) k 0 short ∙ get_or-drop at all k 0
    ∙ get_or-covered_flash test flash (at + k) there
    ∙ ap (λ (b : ℕ). covered_byte test (at + k) b)
    (sym (get_or-take len (drop at flash) k 0 short ∙ get_or-drop at flash k 0))))

-- a place lies in the sector exactly where it lies in its range
sector_test : (sector at start end k len : ℕ) → start ≡ min (sector * 4096 - at) len
    → end ≡ min (sector * 4096 + 4096 - at) len → k < len
    → (nat_le start k && nat_lt k (start + (end - start))) ≡ eqb ((at + k) / 4096) sector
sector_test sector at start end k len from to inside =
    elim (cases_order ((at + k) / 4096) sector) [
      | inl same ↦
          let low : start ≤ k = omega (arith, from) in
          let high : k < start + (end - start) = omega (arith, from, to) in
          let here : eqb ((at + k) / 4096) sector ≡ true = eq-eqb _ _ same in
          let within : (nat_le start k && nat_lt k (start + (end - start))) ≡ true = grind (arith, nat_tests) in
          within ∙ sym here
      | inr (inl below) ↦
          let past : k < start = omega (arith, from) in
          let away : eqb ((at + k) / 4096) sector ≡ false = ne_eqb _ _ (λ e. omega arith) in
          let out : (nat_le start k && nat_lt k (start + (end - start))) ≡ false = grind (arith, nat_tests) in
          out ∙ sym away
      | inr (inr above) ↦
          let past : start + (end - start) ≤ k = omega (arith, from, to) in
          let away : eqb ((at + k) / 4096) sector ≡ false = ne_eqb _ _ (λ e. omega arith) in
          let out : (nat_le start k && nat_lt k (start + (end - start))) ≡ false = grind (arith, nat_tests) in
          out ∙ sym away
    ]

-- the bytes of one sector
pub covered_sector : (sector at start end : ℕ) (bytes : List ℕ)
    → start ≡ min (sector * 4096 - at) (length bytes)
    → end ≡ min (sector * 4096 + 4096 - at) (length bytes)
    → erased bytes start (end - start) ≡ covered (λ s. eqb s sector) at bytes
covered_sector sector at start end bytes from to =
    let inside : start + (end - start) ≤ length bytes = omega (arith, from, to) in
    is_covered (λ s. eqb s sector) at bytes (erased bytes start (end - start))
    (length-erased bytes start (end - start) inside)
    (λ k there. get_or-erased bytes start (end - start) k inside there
    ∙ ap (λ (b : Bool). cond b 255 (get_or bytes k 0)) (sector_test sector at start end k (length bytes) from to there))

skip : (test : ℕ → Bool) (n s : ℕ) → test n ≡ false
    → (nat_lt s n && test s) ≡ (nat_lt s (n + 1) && test s)
skip test n s not_it = elim (cases_eq s n) [
  | inl same ↦ rw same
      (let below : nat_lt n (n + 1) ≡ true = grind (arith, nat_tests) in
      let at_n : nat_lt n n ≡ false = grind (arith, nat_tests) in
      rw (below, at_n, not_it) refl)
  | inr other ↦
      let below : nat_lt s (n + 1) ≡ nat_lt s n = grind (arith, nat_tests) in rw below refl
]

-- the sectors below one, of which that one is not in the test
pub covered_skip : (test : ℕ → Bool) (n at : ℕ) (bytes : List ℕ) → test n ≡ false
    → covered (λ s. nat_lt s n && test s) at bytes ≡ covered (λ s. nat_lt s (n + 1) && test s) at bytes
covered_skip test n at bytes not_it =
    covered_same (λ s. nat_lt s n && test s) (λ s. nat_lt s (n + 1) && test s) at bytes
    (λ k inside. skip test n ((at + k) / 4096) not_it)

-- no sector that lies before the bytes
pub covered_before : (test : ℕ → Bool) (at : ℕ) (bytes : List ℕ)
    → bytes ≡ covered (λ s. nat_lt s (at / 4096) && test s) at bytes
covered_before test at bytes =
    covered_none (λ s. nat_lt s (at / 4096) && test s) at bytes (λ k inside.
    let past : nat_lt ((at + k) / 4096) (at / 4096) ≡ false = grind (arith, nat_tests) in
    rw past refl)

-- each sector that the bytes meet
pub covered_all : (test : ℕ → Bool) (n at : ℕ) (bytes : List ℕ) → at + length bytes ≤ n * 4096
    → covered (λ s. nat_lt s n && test s) at bytes ≡ covered test at bytes
covered_all test n at bytes enough =
    covered_same (λ s. nat_lt s n && test s) test at bytes (λ k inside.
    let low : nat_lt ((at + k) / 4096) n ≡ true = grind (arith, nat_tests) in
    rw low refl)
