-- The lines of a text and the words of a line, by what they are put together from.
use Rattle.std.proofs.Common.{◌≡◌, ℕ, ◌+◌, ◌-◌, ◌≤◌, true, false, List, [], ◌∷◌, ◌++◌, length, get_or, take, refl, sym, ap, ◌∙◌, arith}
use Rattle.std.proofs.lemmas.Bool.Decides.{nat_tests}
use Rattle.std.proofs.lemmas.List.{append_assoc, append-nil, get_or_at, length-append, take_at}
use Rattle.std.specs.Prelude.{◌==◌}
use Rattle.pipe_ends.specs.Words.{HasNo, ended, is_blank, lines_from, lines_of, without_return, words_from, words_of}

-- a line ends at its line feed
line_from : (front line rest : List ℕ) → HasNo (λ c. c == 10) line
    → lines_from front (line ++ 10 ∷ rest) ≡ without_return (front ++ line) ∷ lines_of rest
line_from front [] rest none = ap (λ (l : List ℕ). without_return l ∷ lines_of rest) (sym (append-nil front))
line_from front (c ∷ cs) rest none =
    rw none.0 (line_from (front ++ c ∷ []) cs rest none.1
    ∙ ap (λ (l : List ℕ). without_return l ∷ lines_of rest) (append_assoc front (c ∷ []) cs))

-- the last line ends with the text
last_from : (front line : List ℕ) → HasNo (λ c. c == 10) line → 1 ≤ length front + length line
    → lines_from front line ≡ (front ++ line) ∷ []
last_from front [] none some =
    let test : (length front == 0) ≡ false = grind (arith, nat_tests, some) in
    rw test (ap (λ (l : List ℕ). l ∷ []) (sym (append-nil front)))
last_from front (c ∷ cs) none some =
    let long = length-append front (c ∷ []) in
    rw none.0 (last_from (front ++ c ∷ []) cs none.1 (omega (arith, long))
    ∙ ap (λ (l : List ℕ). l ∷ []) (append_assoc front (c ∷ []) cs))

pub line_ended : (line rest : List ℕ) → HasNo (λ c. c == 10) line
    → lines_of (line ++ 10 ∷ rest) ≡ without_return line ∷ lines_of rest
line_ended line rest none = line_from [] line rest none

pub line_last : (line : List ℕ) → HasNo (λ c. c == 10) line → 1 ≤ length line → lines_of line ≡ line ∷ []
line_last line none some = last_from [] line none (omega (arith, some))

-- a carriage return at the end goes
pub return_goes : (line : List ℕ) → without_return (line ++ 13 ∷ []) ≡ line
unfolding without_return
return_goes line =
    let long = length-append line (13 ∷ []) in
    let last : length (line ++ 13 ∷ []) - 1 ≡ length line = omega (arith, long) in
    let byte : get_or (line ++ 13 ∷ []) (length (line ++ 13 ∷ []) - 1) 0 ≡ 13 =
    ap (λ n. get_or (line ++ 13 ∷ []) n 0) last ∙ get_or_at line 13 [] 0 (length line) refl in
    let test : (get_or (line ++ 13 ∷ []) (length (line ++ 13 ∷ []) - 1) 0 == 13) ≡ true = grind (arith, nat_tests, byte) in
    rw test (ap (λ n. take n (line ++ 13 ∷ [])) last ∙ take_at line (13 ∷ []) (length line) refl)

-- a blank before the first word is none of a word's
pub blank_first : (c : ℕ) (line : List ℕ) → is_blank c ≡ true → words_of (c ∷ line) ≡ words_of line
blank_first c line blank = rw blank refl

-- a word with a byte is a word
is_word : (word : List ℕ) (words : List (List ℕ)) → 1 ≤ length word → ended word words ≡ word ∷ words
is_word word words some = let test : (length word == 0) ≡ false = grind (arith, nat_tests, some) in rw test refl

-- a word ends at a blank
word_from : (front word line : List ℕ) (c : ℕ) → HasNo is_blank word → 1 ≤ length front + length word → is_blank c ≡ true
    → words_from front (word ++ c ∷ line) ≡ (front ++ word) ∷ words_of line
word_from front [] line c none some blank =
    rw blank (is_word front (words_of line) (omega (arith, some))
    ∙ ap (λ (l : List ℕ). l ∷ words_of line) (sym (append-nil front)))
word_from front (b ∷ bs) line c none some blank =
    let long = length-append front (b ∷ []) in
    rw none.0 (word_from (front ++ b ∷ []) bs line c none.1 (omega (arith, long)) blank
    ∙ ap (λ (l : List ℕ). l ∷ words_of line) (append_assoc front (b ∷ []) bs))

-- the last word ends with the line
last_word_from : (front word : List ℕ) → HasNo is_blank word → 1 ≤ length front + length word
    → words_from front word ≡ (front ++ word) ∷ []
last_word_from front [] none some =
    is_word front [] (omega (arith, some)) ∙ ap (λ (l : List ℕ). l ∷ []) (sym (append-nil front))
last_word_from front (b ∷ bs) none some =
    let long = length-append front (b ∷ []) in
    rw none.0 (last_word_from (front ++ b ∷ []) bs none.1 (omega (arith, long))
    ∙ ap (λ (l : List ℕ). l ∷ []) (append_assoc front (b ∷ []) bs))

pub word_ended : (word line : List ℕ) (c : ℕ) → HasNo is_blank word → 1 ≤ length word → is_blank c ≡ true
    → words_of (word ++ c ∷ line) ≡ word ∷ words_of line
word_ended word line c none some blank = word_from [] word line c none (omega (arith, some)) blank

pub word_last : (word : List ℕ) → HasNo is_blank word → 1 ≤ length word → words_of word ≡ word ∷ []
word_last word none some = last_word_from [] word none (omega (arith, some))
