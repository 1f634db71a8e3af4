-- Numbers of two and of four bytes, and parts of a list that follow one another.
use Rattle.std.proofs.Common.{◌≡◌, ℕ, ◌+◌, ◌*◌, ◌/◌, ◌%◌, ◌<◌, ◌≤◌, List, [], ◌∷◌, ◌++◌, length, take, drop, get_or, refl, sym, arith}
use Rattle.std.proofs.Math.Seq.{take-add}
use Rattle.std.proofs.lemmas.List.{take_more}
use Rattle.std.proofs.lemmas.List.Elements.{All-get_or}
use Rattle.std.specs.List.{All}
use Rattle.byteorder.specs.Endian.{little_bytes, little_number}

-- two bytes, read as a number and written again
two_bytes : (a b : ℕ) → a < 256 → b < 256
    → little_bytes 2 (a + 256 * (b + 256 * 0)) ≡ a ∷ b ∷ []
two_bytes a b ha hb =
    let n = a + 256 * (b + 256 * 0) in
    let e0 : n % 256 ≡ a = omega arith in
    let e1 : n / 256 % 256 ≡ b = omega arith in
    rw (e0, e1) refl

-- four bytes, read as a number and written again
four_bytes : (a b c d : ℕ) → a < 256 → b < 256 → c < 256 → d < 256
    → little_bytes 4 (a + 256 * (b + 256 * (c + 256 * (d + 256 * 0)))) ≡ a ∷ b ∷ c ∷ d ∷ []
four_bytes a b c d ha hb hc hd =
    let n = a + 256 * (b + 256 * (c + 256 * (d + 256 * 0))) in
    let e0 : n % 256 ≡ a = omega arith in
    let e1 : n / 256 % 256 ≡ b = omega arith in
    let e2 : n / 65536 % 256 ≡ c = omega arith in
    let e3 : n / 16777216 % 256 ≡ d = omega arith in
    rw (e0, e1, e2, e3) refl

-- the first two bytes of a list
pub little_two : (bytes : List ℕ) → 2 ≤ length bytes → All (λ b. b < 256) bytes
    → little_bytes 2 (little_number 2 bytes) ≡ take 2 bytes
little_two [] long small = absurd (omega arith)
little_two (a ∷ []) long small = absurd (omega arith)
little_two (a ∷ b ∷ rest) long small =
    let bytes = a ∷ b ∷ rest in
    let byte : (i : ℕ) → i < length bytes → get_or bytes i 0 < 256 =
    λ i h. All-get_or (λ (x : ℕ). x < 256) bytes i 0 h small in
    two_bytes a b (byte 0 (omega arith)) (byte 1 (omega arith))

-- the first four bytes of a list
pub little_four : (bytes : List ℕ) → 4 ≤ length bytes → All (λ b. b < 256) bytes
    → little_bytes 4 (little_number 4 bytes) ≡ take 4 bytes
little_four [] long small = absurd (omega arith)
little_four (a ∷ []) long small = absurd (omega arith)
little_four (a ∷ b ∷ []) long small = absurd (omega arith)
little_four (a ∷ b ∷ c ∷ []) long small = absurd (omega arith)
little_four (a ∷ b ∷ c ∷ d ∷ rest) long small =
    let bytes = a ∷ b ∷ c ∷ d ∷ rest in
    let byte : (i : ℕ) → i < length bytes → get_or bytes i 0 < 256 =
    λ i h. All-get_or (λ (x : ℕ). x < 256) bytes i 0 h small in
    four_bytes a b c d (byte 0 (omega arith)) (byte 1 (omega arith)) (byte 2 (omega arith)) (byte 3 (omega arith))

-- the first four items of a list
pub first_four : (xs : List ℕ) → 4 ≤ length xs
    → get_or xs 0 0 ∷ get_or xs 1 0 ∷ get_or xs 2 0 ∷ get_or xs 3 0 ∷ [] ≡ take 4 xs
first_four [] long = absurd (omega arith)
first_four (a ∷ []) long = absurd (omega arith)
first_four (a ∷ b ∷ []) long = absurd (omega arith)
first_four (a ∷ b ∷ c ∷ []) long = absurd (omega arith)
first_four (a ∷ b ∷ c ∷ d ∷ rest) long = refl

-- the first items, and the part that follows them
pub with_part : (xs front part : List ℕ) (a n : ℕ) → front ≡ take a xs → part ≡ take n (drop a xs)
    → front ++ part ≡ take (a + n) xs
with_part xs front part a n front_is part_is = rw (front_is, part_is) (sym (take-add a n xs))

-- the first items, and the item that follows them
pub with_item : (xs front : List ℕ) (a : ℕ) → a < length xs → front ≡ take a xs
    → front ++ (get_or xs a 0 ∷ []) ≡ take (a + 1) xs
with_item xs front a inside front_is = rw front_is (sym (take_more xs a 0 inside))
