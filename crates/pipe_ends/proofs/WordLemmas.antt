-- Words, byte by byte.
use Rattle.std.proofs.Common.{◌≡◌, ◌≢◌, ℕ, zero, suc, ◌+◌, ◌-◌, ◌<◌, ◌≤◌, Bool, true, false, List, [], ◌∷◌, ◌++◌, length, get_or, take, drop, refl, sym, ap, ◌∙◌, arith, add-one, drop-cons}
use Rattle.std.proofs.lemmas.Bool.Decides.{nat_tests}
use Rattle.std.proofs.lemmas.List.{get_or-drop, length-drop, take_more}
use Rattle.std.specs.Prelude.{if◌then◌else◌, nat_lt, ◌==◌}
use Rattle.pipe_ends.specs.Words.{ended, is_blank, word_in, words_from, words_of}

-- the bytes from one place up to another, and one more
pub one_more : (from i : ℕ) (text : List ℕ) → i < length text → from ≤ i
    → take (i + 1 - from) (drop from text) ≡ take (i - from) (drop from text) ++ get_or text i 0 ∷ []
one_more from i text below inside =
    let place : i + 1 - from ≡ i - from + 1 = omega arith in
    let room : i - from < length (drop from text) = omega (arith, length-drop from text) in
    let back : from + (i - from) ≡ i = omega arith in
    let byte : get_or (drop from text) (i - from) 0 ≡ get_or text i 0 =
    get_or-drop from text (i - from) 0 ∙ ap (λ k. get_or text k 0) back in
    ap (λ k. take k (drop from text)) place ∙ take_more (drop from text) (i - from) 0 room
    ∙ ap (λ b. take (i - from) (drop from text) ++ b ∷ []) byte

-- a byte that separates no words joins the word at hand
pub word_goes_on : (from i : ℕ) (line : List ℕ) → i < length line → from ≤ i → is_blank (get_or line i 0) ≡ false
    → words_from (take (i - from) (drop from line)) (drop i line)
    ≡ words_from (take (i + 1 - from) (drop from line)) (drop (i + 1) line)
word_goes_on from i line below inside other = rw (drop-cons line i 0, other, one_more from i line below inside, add-one) refl

-- each word has a byte
abbrev HaveBytes : List (List ℕ) → Type 0
HaveBytes [] = Unit {0}
HaveBytes (word ∷ words) = (length word ≢ 0) × HaveBytes words

-- so a word that ended, with those that follow
ended_have : (word : List ℕ) (words : List (List ℕ)) → HaveBytes words → HaveBytes (ended word words)
ended_have word words have = by (length word == 0) refl
  where
    by : (test : Bool) → (length word == 0) ≡ test → HaveBytes (if test then words else word ∷ words)
    by true is = have
    by false is = (grind (arith, nat_tests, is), have)

-- and the words of a line
words_have : (word line : List ℕ) → HaveBytes (words_from word line)
words_have word [] = ended_have word [] tt
words_have word (c ∷ cs) = by (is_blank c) (ended_have word (words_from [] cs) (words_have [] cs)) (words_have (word ++ c ∷ []) cs)
  where
    by : (blank : Bool) → HaveBytes (ended word (words_from [] cs)) → HaveBytes (words_from (word ++ c ∷ []) cs)
        → HaveBytes (if blank then ended word (words_from [] cs) else words_from (word ++ c ∷ []) cs)
    by true one other = one
    by false one other = other

-- a word with no byte is behind the last one
no_byte : (n : ℕ) (words : List (List ℕ)) → HaveBytes words → length (word_in n words) ≡ 0 → length words ≤ n
no_byte n [] have is = omega arith
no_byte zero (word ∷ words) have is = absurd (have.0 is)
no_byte (suc n) (word ∷ words) have is = let rest = no_byte n words have.1 is in omega (arith, rest)

-- behind the last one there is no byte
past_last : (n : ℕ) (words : List (List ℕ)) → length words ≤ n → length (word_in n words) ≡ 0
past_last n [] past = refl
past_last zero (word ∷ words) past = absurd (omega arith)
past_last (suc n) (word ∷ words) past = past_last n words (omega arith)

-- a line whose word of a number has no byte has at most so many words
pub ends_before : (n : ℕ) (line : List ℕ) → length (word_in n (words_of line)) ≡ 0 → length (words_of line) ≤ n
ends_before n line is = no_byte n (words_of line) (words_have [] line) is

-- there are so many words where the last of them has a byte, and the next one has none
pub has_all : (n : ℕ) (line : List ℕ) → 1 ≤ n → 0 < length (word_in (n - 1) (words_of line))
    → (length (word_in n (words_of line)) == 0) ≡ (length (words_of line) == n)
has_all n line some last =
    let words = words_of line in
    let inside : n - 1 < length words = by (nat_lt (n - 1) (length words)) refl in
    whole (length (word_in n words) == 0) refl inside
  where
    by : (test : Bool) → nat_lt (n - 1) (length (words_of line)) ≡ test → n - 1 < length (words_of line)
    by true is = grind (arith, nat_tests, is)
    by false is =
        let past : length (words_of line) ≤ n - 1 = grind (arith, nat_tests, is) in
        let none = past_last (n - 1) (words_of line) past in
        absurd (omega (arith, none, last))

    whole : (test : Bool) → (length (word_in n (words_of line)) == 0) ≡ test → n - 1 < length (words_of line)
        → test ≡ (length (words_of line) == n)
    whole true is inside =
        let none : length (word_in n (words_of line)) ≡ 0 = grind (arith, nat_tests, is) in
        let most = ends_before n line none in
        let same : length (words_of line) ≡ n = omega (arith, most, inside, some) in
        grind (arith, nat_tests, same)
    whole false is inside =
        let more : length (word_in n (words_of line)) ≢ 0 = grind (arith, nat_tests, is) in
        let other : length (words_of line) ≢ n = λ same. more (past_last n (words_of line) (omega (arith, same))) in
        grind (arith, nat_tests, other)

-- and not where the last of them has none
pub lacks : (n : ℕ) (line : List ℕ) → 1 ≤ n → length (word_in (n - 1) (words_of line)) ≤ 0
    → nat_lt 0 (length (word_in (n - 1) (words_of line))) ≡ (length (words_of line) == n)
lacks n line some none =
    let most = ends_before (n - 1) line (omega (arith, none)) in
    let other : length (words_of line) ≢ n = omega (arith, most, some) in
    let left : nat_lt 0 (length (word_in (n - 1) (words_of line))) ≡ false = grind (arith, nat_tests, none) in
    let right : (length (words_of line) == n) ≡ false = grind (arith, nat_tests, other) in
    left ∙ sym right
