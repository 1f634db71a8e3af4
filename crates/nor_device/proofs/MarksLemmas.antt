-- The words of the marks, flag by flag, and how many are set.
use Rattle.std.proofs.Common.{◌≡◌, ℕ, ◌+◌, ◌*◌, ◌/◌, ◌%◌, ◌^◌, ◌-◌, ◌<◌, ◌≤◌, Bool, true, false, not, ◌&&◌, cond, eqb, nat_le, nat_lt, List, length, replicate, get_or, set, refl, sym, ◌∙◌, ap, inl, inr, arith, ext_get_or, length-set, get_or-set_same, get_or-set_other, eq-eqb, ne_eqb, w64}
use Rattle.std.proofs.lemmas.List.{length-replicate, get_or-replicate, get_or_past, set-get_or}
use Rattle.std.proofs.lemmas.List.Sums.{sum_by-set, count_by-le-length}
use Rattle.std.proofs.lemmas.List.Folds.{sum_by-replicate}
use Rattle.std.proofs.lemmas.List.FromFn.{length-map-range_with_len, get_or-map-range_with_len}
use Rattle.std.proofs.lemmas.Bool.{cases_eq, cases_lt, cases_Bool}
use Rattle.std.proofs.lemmas.Nat.{one_shl, pow_pos}
use Rattle.std.proofs.lemmas.Nat.Bits.{bit_at_set_same, bit_at_set_other, bit_at_clear_same, bit_at_clear_other, bit_at-zero, and_pow}
use Rattle.std.specs.Prelude.{bit_and, bit_or}
use Rattle.std.specs.Int.{bit_at, bit_not}
use Rattle.std.proofs.lemmas.Bool.Decides.{nat_tests}
use Rattle.nor_device.specs.Marks.{no_marks, flags_of, marked_count, marked_as}

-- the flag of a place in the words
abbrev flag : List ℕ → ℕ → Bool
flag words n = eqb (bit_at (get_or words (n / 64) 0) (n % 64)) 1

-- the mark of a sector after a range of them has changed
abbrev pub mark_as : Bool → ℕ → ℕ → List Bool → ℕ → Bool
mark_as mark first last marks s = cond (nat_le first s && nat_lt s last) mark (get_or marks s false)

-- a word has 64 flags
pub length-flags_of : (words : List ℕ) → length (flags_of words) ≡ 64 * length words
unfolding flags_of
length-flags_of words = length-map-range_with_len (flag words) 0 (64 * length words)

pub get_or-flags_of : (words : List ℕ) (k : ℕ) → k < 64 * length words
    → get_or (flags_of words) k false ≡ flag words k
unfolding flags_of
get_or-flags_of words k inside =
    get_or-map-range_with_len (flag words) 0 (64 * length words) k k false inside (omega arith)

-- a word of which one bit has changed, in its place
pub flags_of-set : (words : List ℕ) (n word : ℕ) (mark : Bool) → n < 64 * length words
    → eqb (bit_at word (n % 64)) 1 ≡ mark
    → ((i : ℕ) → i < 64 → (i ≡ n % 64 → ⊥) → bit_at word i ≡ bit_at (get_or words (n / 64) 0) i)
    → flags_of (set words (n / 64) word) ≡ set (flags_of words) n mark
flags_of-set words n word mark inside here elsewhere =
    let new = set words (n / 64) word in
    let len : length new ≡ length words = length-set words (n / 64) word in
    let word_in : n / 64 < length words = omega arith in
    let n_in : n < length (flags_of words) = omega (arith, length-flags_of words) in
    ext_get_or false _ _
    (length-flags_of new ∙ ap (λ (x : ℕ). 64 * x) len ∙ sym (length-flags_of words)
    ∙ sym (length-set (flags_of words) n mark))
    (λ k h.
    let k_in : k < 64 * length new = omega (arith, h, length-flags_of new) in
    get_or-flags_of new k k_in
    ∙ (elim (cases_eq k n) as (λ _. flag new k ≡ get_or (set (flags_of words) n mark) k false) [
      | inl same ↦ rw same
          (ap (λ (x : ℕ). eqb (bit_at x (n % 64)) 1) (get_or-set_same words (n / 64) word 0 word_in)
          ∙ here ∙ sym (get_or-set_same (flags_of words) n mark false n_in))
      | inr other ↦
          (elim (cases_eq (k / 64) (n / 64)) as (λ _. flag new k ≡ flag words k) [
            | inl row ↦
                ap (λ (x : ℕ). eqb (bit_at (get_or new x 0) (k % 64)) 1) row
                ∙ ap (λ (x : ℕ). eqb (bit_at x (k % 64)) 1)
                (get_or-set_same words (n / 64) word 0 word_in)
                ∙ ap (λ (x : ℕ). eqb x 1) (elsewhere (k % 64) (omega arith) (omega arith))
                ∙ ap (λ (x : ℕ). eqb (bit_at (get_or words x 0) (k % 64)) 1) (sym row)
            | inr apart ↦ ap (λ (x : ℕ). eqb (bit_at x (k % 64)) 1)
                (get_or-set_other words (n / 64) (k / 64) word 0 apart)
          ])
          ∙ sym (get_or-flags_of words k (omega arith))
          ∙ sym (get_or-set_other (flags_of words) n k mark false other)
    ]))

-- `word | 1 << k` sets a flag
pub flags_of-mark : (words : List ℕ) (n : ℕ) → n < 64 * length words
    → flags_of (set words (n / 64) (bit_or (get_or words (n / 64) 0) (1 * 2 ^ (n % 64) % 2 ^ 64)))
    ≡ set (flags_of words) n true
flags_of-mark words n inside =
    let word = get_or words (n / 64) 0 in
    let low : n % 64 < 64 = omega arith in
    flags_of-set words n (bit_or word (1 * 2 ^ (n % 64) % 2 ^ 64)) true inside
    (eq-eqb _ 1 (bit_at_set_same w64 word (n % 64) low))
    (λ i small other. bit_at_set_other w64 word (n % 64) low i other)

-- `word & !(1 << k)` takes it away
pub flags_of-clear : (words : List ℕ) (n : ℕ) → n < 64 * length words
    → flags_of (set words (n / 64)
    (bit_and (get_or words (n / 64) 0) (bit_not w64 (1 * 2 ^ (n % 64) % 2 ^ 64))))
    ≡ set (flags_of words) n false
flags_of-clear words n inside =
    let word = get_or words (n / 64) 0 in
    let low : n % 64 < 64 = omega arith in
    flags_of-set words n (bit_and word (bit_not w64 (1 * 2 ^ (n % 64) % 2 ^ 64))) false inside
    (ap (λ (x : ℕ). eqb x 1) (bit_at_clear_same w64 word (n % 64) low))
    (λ i small other. bit_at_clear_other w64 word (n % 64) low i small other)

-- `word & 1 << k` is 0 where the bit is not set
bit_clear : (word k : ℕ) → k < 64
    → eqb (bit_and word (1 * 2 ^ k % 2 ^ 64)) 0 ≡ not (eqb (bit_at word k) 1)
bit_clear word k low =
    let is : bit_and word (1 * 2 ^ k % 2 ^ 64) ≡ bit_at word k * 2 ^ k =
    ap (bit_and word) (one_shl k 64 low) ∙ and_pow word k in
    let bit : ℕ = bit_at word k in
    let small : bit < 2 = omega arith in
    elim (cases_eq bit 1) [
      | inl one ↦
          let big : 0 < bit_and word (1 * 2 ^ k % 2 ^ 64) = rw (is, one) (omega (arith, pow_pos k)) in
          ne_eqb _ 0 (omega arith) ∙ sym (ap not (eq-eqb bit 1 one))
      | inr other ↦
          let none : bit ≡ 0 = omega arith in
          eq-eqb _ 0 (rw (is, none) (omega arith)) ∙ sym (ap not (ne_eqb bit 1 other))
    ]

not_not : (b : Bool) → not (not b) ≡ b
not_not true = refl
not_not false = refl

-- and so `!= 0` tells the flag
pub flag_read : (words : List ℕ) (n : ℕ) → n < 64 * length words
    → not (eqb (bit_and (get_or words (n / 64) 0) (1 * 2 ^ (n % 64) % 2 ^ 64)) 0)
    ≡ get_or (flags_of words) n false
flag_read words n inside =
    ap not (bit_clear (get_or words (n / 64) 0) (n % 64) (omega arith))
    ∙ not_not (flag words n) ∙ sym (get_or-flags_of words n inside)

-- words of zeros mark nothing
pub flags_of-zeros : flags_of (replicate 128 0) ≡ no_marks
unfolding no_marks
flags_of-zeros =
    let zeros : List ℕ = replicate 128 0 in
    let len : length zeros ≡ 128 = length-replicate {A = ℕ} 128 0 in
    ext_get_or false _ _
    (length-flags_of zeros ∙ ap (λ (x : ℕ). 64 * x) len ∙ sym (length-replicate 8192 false))
    (λ k h.
    let k_in : k < 64 * length zeros = omega (arith, h, length-flags_of zeros) in
    get_or-flags_of zeros k k_in
    ∙ ap (λ (x : ℕ). eqb (bit_at x (k % 64)) 1) (get_or-replicate 128 (k / 64) 0 0 (omega arith))
    ∙ ap (λ (x : ℕ). eqb x 1) (bit_at-zero (k % 64))
    ∙ sym (get_or-replicate 8192 k false false (omega (arith, len))))

-- a sector for each flag of 32 MiB
pub length-no_marks : length no_marks ≡ 8192
unfolding no_marks
length-no_marks = length-replicate 8192 false

pub get_or-no_marks : (k : ℕ) → get_or no_marks k false ≡ false
unfolding no_marks
get_or-no_marks k = elim (cases_lt k 8192) [
  | inl low ↦ get_or-replicate 8192 k false false low
  | inr past ↦ get_or_past (replicate 8192 false) k false (omega (arith, length-replicate 8192 false))
]

-- none of them is marked
pub none_marked : marked_count no_marks ≡ 0
unfolding marked_count no_marks
none_marked = sum_by-replicate (λ b. cond b 1 0) 8192 false ∙ omega arith

-- there are no more marks than flags
pub marked_le : (marks : List Bool) → marked_count marks ≤ length marks
unfolding marked_count
marked_le marks = count_by-le-length (λ b. b) marks

-- a new mark counts one more
pub marked_more : (marks : List Bool) (k : ℕ) → k < length marks → get_or marks k false ≡ false
    → marked_count (set marks k true) ≡ marked_count marks + 1
unfolding marked_count
marked_more marks k inside none =
    let one : Bool → ℕ = λ b. cond b 1 0 in
    omega (arith, sum_by-set one marks k true false inside, ap one none)

-- and one that is taken away one less
pub marked_less : (marks : List Bool) (k : ℕ) → k < length marks → get_or marks k false ≡ true
    → marked_count (set marks k false) + 1 ≡ marked_count marks
unfolding marked_count
marked_less marks k inside one_is =
    let one : Bool → ℕ = λ b. cond b 1 0 in
    omega (arith, sum_by-set one marks k false false inside, ap one one_is)

-- where nothing is counted, no flag is set
pub none_from_count : (marks : List Bool) (k : ℕ) → marked_count marks ≡ 0
    → get_or marks k false ≡ false
none_from_count marks k none = elim (cases_lt k (length marks)) [
  | inl inside ↦ elim (cases_Bool (get_or marks k false)) [
    | inl is ↦ absurd (omega (arith, none, marked_less marks k inside is))
    | inr not_it ↦ not_it
  ]
  | inr past ↦ get_or_past marks k false past
]

-- a flag that is as it was
pub set_same : (marks : List Bool) (k : ℕ) (mark : Bool) → get_or marks k false ≡ mark
    → set marks k mark ≡ marks
set_same marks k mark is = ap (set marks k) (sym is) ∙ set-get_or marks k false

-- the marks of a range of sectors, one by one
pub length-marked_as : (mark : Bool) (first last : ℕ) (marks : List Bool)
    → length (marked_as mark first last marks) ≡ length marks
unfolding marked_as
length-marked_as mark first last marks =
    length-map-range_with_len (mark_as mark first last marks) 0 (length marks)

pub get_or-marked_as : (mark : Bool) (first last : ℕ) (marks : List Bool) (k : ℕ) → k < length marks
    → get_or (marked_as mark first last marks) k false ≡ mark_as mark first last marks k
unfolding marked_as
get_or-marked_as mark first last marks k inside =
    get_or-map-range_with_len (mark_as mark first last marks) 0 (length marks) k k false inside
    (omega arith)

-- no sector is in an empty range
pub marked_as-none : (mark : Bool) (first : ℕ) (marks : List Bool)
    → marks ≡ marked_as mark first first marks
marked_as-none mark first marks =
    ext_get_or false marks (marked_as mark first first marks)
    (sym (length-marked_as mark first first marks)) (λ k h.
    let out : (nat_le first k && nat_lt k first) ≡ false = grind (arith, nat_tests) in
    ap (λ (b : Bool). cond b mark (get_or marks k false)) (sym out)
    ∙ sym (get_or-marked_as mark first first marks k h))

-- and one sector more
pub marked_as-more : (mark : Bool) (first n : ℕ) (marks : List Bool) → first ≤ n
    → set (marked_as mark first n marks) n mark ≡ marked_as mark first (n + 1) marks
marked_as-more mark first n marks from =
    let old = marked_as mark first n marks in
    let new = marked_as mark first (n + 1) marks in
    let len = length-marked_as mark first n marks in
    ext_get_or false (set old n mark) new
    (length-set old n mark ∙ len ∙ sym (length-marked_as mark first (n + 1) marks)) (λ k h.
    let there : k < length marks = omega (arith, h, len, length-set old n mark) in
    (elim (cases_eq k n) as (λ _. get_or (set old n mark) k false ≡ mark_as mark first (n + 1) marks k) [
      | inl same ↦ rw same
          (let here : (nat_le first n && nat_lt n (n + 1)) ≡ true = grind (arith, nat_tests) in
          get_or-set_same old n mark false (omega (arith, there, same, len))
          ∙ ap (λ (b : Bool). cond b mark (get_or marks n false)) (sym here))
      | inr other ↦
          let as_before : (nat_le first k && nat_lt k n) ≡ (nat_le first k && nat_lt k (n + 1)) =
          grind (arith, nat_tests) in
          get_or-set_other old n k mark false other
          ∙ get_or-marked_as mark first n marks k there
          ∙ ap (λ (b : Bool). cond b mark (get_or marks k false)) as_before
    ])
    ∙ sym (get_or-marked_as mark first (n + 1) marks k there))

-- a range of one sector
pub marked_as-one : (mark : Bool) (sector : ℕ) (marks : List Bool)
    → marked_as mark sector (sector + 1) marks ≡ set marks sector mark
marked_as-one mark sector marks =
    sym (marked_as-more mark sector sector marks (omega arith))
    ∙ ap (λ (m : List Bool). set m sector mark) (sym (marked_as-none mark sector marks))

-- no sector of a range without marks is marked
pub unmarked : (first last : ℕ) (marks : List Bool) (k : ℕ) → first ≤ k → k < last
    → get_or (marked_as false first last marks) k false ≡ false
unmarked first last marks k from to = elim (cases_lt k (length marks)) [
  | inl inside ↦
      let within : (nat_le first k && nat_lt k last) ≡ true = grind (arith, nat_tests) in
      get_or-marked_as false first last marks k inside
      ∙ ap (λ (b : Bool). cond b false (get_or marks k false)) within
  | inr past ↦ get_or_past (marked_as false first last marks) k false
      (omega (arith, past, length-marked_as false first last marks))
]

-- what a test of a mark says of the words
pub flag_is : (words : List ℕ) (marks : List Bool) (k : ℕ) (result mark : Bool)
    → flags_of words ≡ marks → result ≡ get_or marks k false → result ≡ mark
    → get_or (flags_of words) k false ≡ mark
flag_is words marks k result mark view read is =
    ap (λ (m : List Bool). get_or m k false) view ∙ sym read ∙ is

module _ (words : List ℕ) (k count : ℕ) (sized : length words ≡ 128) (inside : k < 8192)
    (counted : count ≡ marked_count (flags_of words)) where
  in_words : k < 64 * length words
  in_words = omega (arith, sized, inside)

  in_flags : k < length (flags_of words)
  in_flags = omega (arith, in_words, length-flags_of words)

  -- a word in its place keeps the flags as many
  pub length-changed : (word : ℕ) → length (flags_of (set words (k / 64) word)) ≡ 8192
  length-changed word =
      omega (arith, sized, length-set words (k / 64) word, length-flags_of (set words (k / 64) word))

  -- the count fits, and stays that of the flags
  pub count_fits : get_or (flags_of words) k false ≡ false → count + 1 < 2 ^ 32
  count_fits none =
      omega (arith, sized, counted, marked_le (flags_of words), length-flags_of words)

  pub count_more : get_or (flags_of words) k false ≡ false
      → count + 1 ≡ marked_count
      (flags_of (set words (k / 64) (bit_or (get_or words (k / 64) 0) (1 * 2 ^ (k % 64) % 2 ^ 64))))
  count_more none =
      ap (λ (n : ℕ). n + 1) counted ∙ sym (marked_more (flags_of words) k in_flags none)
      ∙ ap marked_count (sym (flags_of-mark words k in_words))

  pub count_some : get_or (flags_of words) k false ≡ true → 1 ≤ count
  count_some is = omega (arith, counted, marked_less (flags_of words) k in_flags is)

  pub count_less : get_or (flags_of words) k false ≡ true
      → count - 1 ≡ marked_count
      (flags_of (set words (k / 64)
      (bit_and (get_or words (k / 64) 0) (bit_not w64 (1 * 2 ^ (k % 64) % 2 ^ 64)))))
  count_less is =
      let less : count - 1 ≡ marked_count (set (flags_of words) k false) =
      omega (arith, counted, marked_less (flags_of words) k in_flags is) in
      less ∙ ap marked_count (sym (flags_of-clear words k in_words))
