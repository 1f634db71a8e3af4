-- The lines of a text, and the words of a line.
use Rattle.std.specs.Prelude.{◌≡◌, ℕ, zero, suc, ◌-◌, Bool, false, ◌||◌, ◌==◌, List, [], ◌∷◌, ◌++◌, length, take, slice_index, bytes_eq, if◌then◌else◌}

-- a line without the carriage return at its end, where one stands there
unfoldable pub without_return : List ℕ → List ℕ
without_return line =
    if slice_index line (length line - 1) == 13 then take (length line - 1) line else line

-- the lines of a text that goes on from these bytes of the first one: each ends with a line feed, and
-- a carriage return before that is no part of it; the last line may end with the text, and then keeps
-- a carriage return
abbrev pub lines_from : List ℕ → List ℕ → List (List ℕ)
lines_from line [] = if length line == 0 then [] else line ∷ []
lines_from line (c ∷ cs) =
    if c == 10 then without_return line ∷ lines_from [] cs else lines_from (line ++ c ∷ []) cs

-- the lines of a text
abbrev pub lines_of : List ℕ → List (List ℕ)
lines_of text = lines_from [] text

-- whether a byte separates words: a space or a tab
abbrev pub is_blank : ℕ → Bool
is_blank c = (c == 32) || (c == 9)

-- a word that ended, if it has a byte, and those that follow
abbrev pub ended : List ℕ → List (List ℕ) → List (List ℕ)
ended word words = if length word == 0 then words else word ∷ words

-- the words of a line that goes on from these bytes of the first one
abbrev pub words_from : List ℕ → List ℕ → List (List ℕ)
words_from word [] = ended word []
words_from word (c ∷ cs) =
    if is_blank c then ended word (words_from [] cs) else words_from (word ++ c ∷ []) cs

-- the words of a line
abbrev pub words_of : List ℕ → List (List ℕ)
words_of line = words_from [] line

-- the word of this number; no byte where there are fewer
abbrev pub word_in : ℕ → List (List ℕ) → List ℕ
word_in n [] = []
word_in zero (word ∷ words) = word
word_in (suc n) (word ∷ words) = word_in n words

-- whether a line says nothing: it has no word, or is a comment
unfoldable pub is_skipped : List (List ℕ) → Bool
is_skipped words = (length words == 0) || (slice_index (word_in 0 words) 0 == 35)

-- whether the first word is this one
abbrev pub begins : List (List ℕ) → List ℕ → Bool
begins words key = bytes_eq (word_in 0 words) key

-- no byte passes this test
abbrev pub HasNo : (ℕ → Bool) → List ℕ → Type 0
HasNo test [] = Unit {0}
HasNo test (c ∷ cs) = (test c ≡ false) × HasNo test cs
