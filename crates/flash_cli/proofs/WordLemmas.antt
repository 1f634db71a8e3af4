-- The words behind the word of a command: names, and then options.
use Rattle.std.proofs.Common.{◌≡◌, ◌≤◌, ◌<◌, ◌-◌, ℕ, List, [], ◌∷◌, length, take, drop, get_or, refl, sym, ap, ◌∙◌, arith}
use Rattle.std.specs.Prelude.{Bool, true, false, not, ◌&&◌, ◌||◌, ◌==◌, nat_lt, String, string_bytes, bytes_eq, Option, Some, None}
use Rattle.std.specs.List.{list_all, list_any}
use Rattle.std.specs.declared.alloc.Global.{Global}
use Rattle.std.proofs.lemmas.Bool.Decides.{nat_tests}
use Rattle.std.proofs.lemmas.List.{take-map, drop-map, take_rest, length-map}
use Rattle.flash_cli.specs.declared.command.Kind.{Kind}
use Rattle.flash_cli.specs.Command.{Command, Row, rows, row_of, made, command_of, cores_of, words_of, is_file_name, has_option, are_options, fits}
use Rattle.flash_cli.specs.UpdateWords.{value_of}

-- an option with its value stands before other words
pub option_first : (options : List (List ℕ)) (words : List (String Global)) (word : String Global) (text again_text : List ℕ)
    (known again rest : Bool) → 2 ≤ length words → word ≡ get_or words 0 word → text ≡ string_bytes word
    → again_text ≡ string_bytes word
    → known ≡ list_any (bytes_eq text) options
    → again ≡ has_option again_text (words_of (take (length words - 2) (drop 2 words)))
    → rest ≡ are_options options (words_of (take (length words - 2) (drop 2 words)))
    → (known && not again && rest) ≡ are_options options (words_of words)
option_first options [] word text again_text known again rest long is text_is again_text_is k a r = absurd (omega arith)
option_first options (x ∷ []) word text again_text known again rest long is text_is again_text_is k a r = absurd (omega arith)
option_first options (x ∷ value ∷ more) word text again_text known again rest long is text_is again_text_is k a r =
    let tail = take_rest (x ∷ value ∷ more) 2 in
    let first : text ≡ string_bytes x = text_is ∙ ap (λ (w : String Global). string_bytes w) is in
    let second : again_text ≡ string_bytes x = again_text_is ∙ ap (λ (w : String Global). string_bytes w) is in
    let known_is : known ≡ list_any (bytes_eq (string_bytes x)) options =
    k ∙ ap (λ t. list_any (bytes_eq t) options) first in
    let again_is : again ≡ has_option (string_bytes x) (words_of more) =
    a ∙ (λ i. has_option (second i) (words_of (tail i))) in
    let rest_is : rest ≡ are_options options (words_of more) = r ∙ ap (λ ws. are_options options (words_of ws)) tail in
    λ i. known_is i && not (again_is i) && rest_is i

-- an option that is known and comes once leaves the rest to be looked at
tests_hold : (known again rest : Bool) → (not known || again) ≡ false
    → (known && not again && rest) ≡ rest
tests_hold true true rest is = absurd cc
tests_hold true false rest is = refl
tests_hold false true rest is = absurd cc
tests_hold false false rest is = absurd cc

-- and another one decides
tests_fail : (known again rest : Bool) → (not known || again) ≡ true
    → (known && not again && rest) ≡ false
tests_fail true true rest is = refl
tests_fail true false rest is = absurd cc
tests_fail false true rest is = refl
tests_fail false false rest is = refl

module _ (options : List (List ℕ)) (words : List (String Global)) (word : String Global)
    (text again_text : List ℕ) (known again : Bool) (long : 2 ≤ length words)
    (is : word ≡ get_or words 0 word) (text_is : text ≡ string_bytes word)
    (again_text_is : again_text ≡ string_bytes word)
    (known_is : known ≡ list_any (bytes_eq text) options)
    (again_is : again ≡ has_option again_text (words_of (take (length words - 2) (drop 2 words))))
  where
    abbrev rest : Bool
    rest = are_options options (words_of (take (length words - 2) (drop 2 words)))

    first : (known && not again && rest) ≡ are_options options (words_of words)
    first = option_first options words word text again_text known again rest long is text_is
        again_text_is known_is again_is refl

    pub option_next : (not known || again) ≡ false → rest ≡ are_options options (words_of words)
    option_next holds = sym (tests_hold known again rest holds) ∙ first

    pub option_fails : (not known || again) ≡ true → false ≡ are_options options (words_of words)
    option_fails fails = sym (tests_fail known again rest fails) ∙ first

-- fewer than two words have no option with a value
pub few_options : (options : List (List ℕ)) (words : List (String Global)) → length words < 2
    → (length words == 0) ≡ are_options options (words_of words)
few_options options [] few = refl
few_options options (x ∷ []) few = refl
few_options options (x ∷ value ∷ more) few = absurd (omega arith)

pub few_have : (option : List ℕ) (words : List (String Global)) → length words < 2
    → false ≡ has_option option (words_of words)
few_have option [] few = refl
few_have option (x ∷ []) few = refl
few_have option (x ∷ value ∷ more) few = absurd (omega arith)

pub few_values : (option : List ℕ) (words : List (String Global)) → length words < 2
    → None ≡ value_of option (words_of words)
few_values option [] few = refl
few_values option (x ∷ []) few = refl
few_values option (x ∷ value ∷ more) few = absurd (omega arith)

-- words with a first one make the command of its row
pub command_read : (words : List (String Global)) (word : String Global) (text : List ℕ) (row : Row) (all : List Row)
    (fit : Bool) (command : Option Command)
    → 1 ≤ length words → word ≡ get_or words 0 word → text ≡ string_bytes word → all ≡ rows
    → Some row ≡ row_of all text → row.cores ≡ false
    → fit ≡ fits row (words_of (take (length words - 1) (drop 1 words))) → fit ≡ true
    → command ≡ made row.kind (words_of (take row.names (take (length words - 1) (drop 1 words))))
    → command ≡ command_of (words_of words)
command_read [] word text row all fit command long is text_is all_is found cores fit_is fitting made_is = absurd (omega arith)
command_read (x ∷ words) word text row all fit command long is text_is all_is found cores fit_is fitting made_is =
    let tail = take_rest (x ∷ words) 1 in
    let here : row_of rows (string_bytes x) ≡ Some row =
    sym (found ∙ (λ i. row_of (all_is i) ((text_is ∙ ap (λ (w : String Global). string_bytes w) is) i))) in
    let fits_so : fits row (words_of words) ≡ true =
    sym (ap (λ ws. fits row (words_of ws)) tail) ∙ sym fit_is ∙ fitting in
    let made_so : command ≡ made row.kind (take row.names (words_of words)) =
    made_is ∙ ap (λ ws. made row.kind (words_of (take row.names ws))) tail
    ∙ ap (made row.kind) (sym (take-map _ row.names words)) in
    rw (here, cores, fits_so) made_so

-- words with a first one make what the row of that makes, where it starts cores
pub cores_read : {A : Type 0} (make : Kind → List (List ℕ) → List (List ℕ) → Option A)
    (words : List (String Global)) (word : String Global) (text : List ℕ) (row : Row)
    (all : List Row) (fit : Bool) (answer : Option A)
    → 1 ≤ length words → word ≡ get_or words 0 word → text ≡ string_bytes word → all ≡ rows
    → Some row ≡ row_of all text → row.cores ≡ true
    → fit ≡ fits row (words_of (take (length words - 1) (drop 1 words))) → fit ≡ true
    → answer ≡ make row.kind (words_of (take row.names (take (length words - 1) (drop 1 words))))
    (words_of (take (length (take (length words - 1) (drop 1 words)) - row.names)
    (drop row.names (take (length words - 1) (drop 1 words)))))
    → answer ≡ cores_of make (words_of words)
cores_read make [] word text row all fit answer long is text_is all_is found cores fit_is fitting made_is = absurd (omega arith)
cores_read make (x ∷ words) word text row all fit answer long is text_is all_is found cores fit_is fitting made_is =
    let tail = take_rest (x ∷ words) 1 in
    let here : row_of rows (string_bytes x) ≡ Some row =
    sym (found ∙ (λ i. row_of (all_is i) ((text_is ∙ ap (λ (w : String Global). string_bytes w) is) i))) in
    let fits_so : fits row (words_of words) ≡ true =
    sym (ap (λ ws. fits row (words_of ws)) tail) ∙ sym fit_is ∙ fitting in
    let made_so : answer ≡ make row.kind (take row.names (words_of words)) (drop row.names (words_of words)) =
    made_is
    ∙ ap (λ ws. make row.kind (words_of (take row.names ws)) (words_of (take (length ws - row.names) (drop row.names ws)))) tail
    ∙ ap (λ ws. make row.kind (words_of (take row.names words)) (words_of ws)) (take_rest words row.names)
    ∙ ap (λ ws. make row.kind ws (words_of (drop row.names words))) (sym (take-map _ row.names words))
    ∙ ap (λ ws. make row.kind (take row.names (words_of words)) ws) (sym (drop-map _ row.names words)) in
    rw (here, cores, fits_so) made_so

-- words that are so many names and then options fit the row
pub words_fit : (row : Row) (words : List (String Global)) (names options : Bool) → row.names ≤ length words
    → names ≡ list_all is_file_name (words_of (take row.names words))
    → options ≡ are_options row.options (words_of (take (length words - row.names) (drop row.names words)))
    → (names && options) ≡ fits row (words_of words)
words_fit row words names options long n o =
    let first : names ≡ list_all is_file_name (take row.names (words_of words)) =
    n ∙ ap (list_all is_file_name) (sym (take-map _ row.names words)) in
    let second : options ≡ are_options row.options (drop row.names (words_of words)) =
    o ∙ ap (λ ws. are_options row.options (words_of ws)) (take_rest words row.names)
    ∙ ap (are_options row.options) (sym (drop-map _ row.names words)) in
    let enough : nat_lt (length (words_of words)) row.names ≡ false =
    let same : length (words_of words) ≡ length words = length-map words _ in grind (arith, nat_tests, same) in
    rw enough (λ i. first i && second i)
