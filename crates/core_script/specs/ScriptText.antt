-- What the text of a script means.
use Rattle.std.specs.Prelude.{ℕ, ◌+◌, ◌%◌, Bool, ◌&&◌, ◌==◌, nat_le, List, [], ◌∷◌, ◌++◌, length, codes, bytes_eq, Option, Some, None, Result, Ok, Err, if◌then◌else◌, ⊤, ◌≡◌}
use Rattle.arrayvec.specs.ArrayVec.{ArrayVec}
use Rattle.hex.specs.Hex.{decode_of}
use Rattle.image_layout.specs.declared.space.Space.{Space}
use Rattle.image_layout.specs.declared.space.Space.TheVariants.{Data, Code}
use Rattle.pipe_ends.specs.Number.{is_among, number_up_to}
use Rattle.pipe_ends.specs.Words.{begins, is_skipped, lines_of, word_in, words_of}
use Rattle.core_script.specs.declared.action.Action.{Action}
use Rattle.core_script.specs.declared.action.Action.TheVariants.{Fetch, Mask, Irq, Map, Unmap, Write, Erase}
use Rattle.core_script.specs.declared.refusal.ScriptNo.{ScriptNo}
use Rattle.core_script.specs.declared.refusal.ScriptNo.TheVariants.{Bad, Memory}
use Rattle.core_script.specs.declared.refusal.ScriptWhy.{ScriptWhy}
use Rattle.core_script.specs.declared.refusal.ScriptWhy.TheVariants.{Word, Count, Space as NoSpace, Number, Label, Hex, Length, TooMany, TooMuch}
use Rattle.core_script.specs.Action.{sectors_in, sectors_in_all}

-- ---- one line

-- what a value gives, or why there is none
abbrev pub need : {A B : Type 0} → Option A → ScriptWhy → (A → Result B ScriptWhy)
    → Result B ScriptWhy
need None why next = Err why
need (Some x) why next = next x

-- what words give, if there are so many
abbrev pub counted : {B : Type 0} → ℕ → List (List ℕ) → Result B ScriptWhy → Result B ScriptWhy
counted n words next = if length words == n then next else Err Count

-- an action, if its numbers are in their bounds
abbrev pub bounded : Bool → Action → Result Action ScriptWhy
bounded test action = if test then Ok action else Err Length

-- the number that a word spells, of at most 32 bits
abbrev pub number_in : ℕ → List (List ℕ) → Option ℕ
number_in n words = number_up_to 0xFFFFFFFF (word_in n words)

-- the space that a word names
unfoldable pub space_of : List ℕ → Option Space
space_of word =
    if bytes_eq word (codes "data") then Some Data
    else (if bytes_eq word (codes "code") then Some Code else None)

-- the label that a word is, if it has at most 16 bytes
abbrev pub label_of : List ℕ → Option (ArrayVec ℕ)
label_of word = if nat_le (length word) 16 then Some (record { items = word }) else None

-- the value of an answer, if it has one
abbrev pub answered : {A E : Type 0} → Result A E → Option A
answered (Ok x) = Some x
answered (Err e) = None

-- the bytes that a word spells by hex digits of either case, two for each
unfoldable pub spelled_bytes : List ℕ → Option (List ℕ)
spelled_bytes word = answered (decode_of word)

-- a line `fetch ADDR LEN`
unfoldable pub fetch_of : List (List ℕ) → Result Action ScriptWhy
fetch_of words =
    counted 3 words (need (number_in 1 words) Number (λ at.
    need (number_in 2 words) Number (λ len.
    bounded (is_among 1 256 len) (Fetch at len))))

-- a line `mask N`
unfoldable pub mask_of : List (List ℕ) → Result Action ScriptWhy
mask_of words =
    counted 2 words (need (number_in 1 words) Number (λ mask.
    bounded (nat_le mask 3) (Mask mask)))

-- a line `irq N`
unfoldable pub irq_of : List (List ℕ) → Result Action ScriptWhy
irq_of words = counted 2 words (need (number_in 1 words) Number (λ irq. Ok (Irq irq)))

-- a line `map data PAGE N` or `map code PAGE N`
unfoldable pub map_of : List (List ℕ) → Result Action ScriptWhy
map_of words =
    counted 4 words (need (space_of (word_in 1 words)) NoSpace (λ space.
    need (number_in 2 words) Number (λ page.
    need (number_in 3 words) Number (λ n.
    bounded (is_among 1 64 n && nat_le (page + n) 256) (Map space page n)))))

-- a line `unmap ADDR`
unfoldable pub unmap_of : List (List ℕ) → Result Action ScriptWhy
unmap_of words = counted 2 words (need (number_in 1 words) Number (λ at. Ok (Unmap at)))

-- a line `write LABEL OFFSET HEX`
unfoldable pub write_of : List (List ℕ) → Result Action ScriptWhy
write_of words =
    counted 4 words (need (number_in 2 words) Number (λ offset.
    need (label_of (word_in 1 words)) Label (λ label.
    need (spelled_bytes (word_in 3 words)) Hex (λ bytes.
    bounded (is_among 1 256 (length bytes) && nat_le (offset % 256 + length bytes) 256)
    (Write label offset bytes)))))

-- a line `erase LABEL OFFSET LEN`
unfoldable pub erase_of : List (List ℕ) → Result Action ScriptWhy
erase_of words =
    counted 4 words (need (number_in 2 words) Number (λ offset.
    need (number_in 3 words) Number (λ len.
    need (label_of (word_in 1 words)) Label (λ label.
    bounded (nat_le 1 len) (Erase label offset len)))))

-- the action of a line of another kind than `write`
unfoldable pub plain_of : List (List ℕ) → Result Action ScriptWhy
plain_of words =
    if begins words (codes "fetch") then fetch_of words
    else (if begins words (codes "mask") then mask_of words
    else (if begins words (codes "irq") then irq_of words
    else (if begins words (codes "map") then map_of words
    else (if begins words (codes "unmap") then unmap_of words
    else (if begins words (codes "erase") then erase_of words
    else Err Word)))))

-- the action of a line with these words, or the first reason against it
unfoldable pub action_of : List (List ℕ) → Result Action ScriptWhy
action_of words = if begins words (codes "write") then write_of words else plain_of words

-- ---- all lines

-- actions and one more, if there are not too many and they do not erase too much
unfoldable pub joined : List Action → Action → Result (List Action) ScriptWhy
joined actions action =
    if nat_le 4096 (length actions) then Err TooMany
    else (if nat_le (sectors_in_all actions + sectors_in action) 65536
    then Ok (actions ++ action ∷ [])
    else Err TooMuch)

-- the actions with that of a line, or the first reason against it
abbrev pub with_action : List Action → Result Action ScriptWhy → Result (List Action) ScriptWhy
with_action actions (Ok action) = joined actions action
with_action actions (Err why) = Err why

-- the actions after a line with these words, or the first reason against it
unfoldable pub after_line : List Action → List (List ℕ) → Result (List Action) ScriptWhy
after_line actions words =
    if is_skipped words then Ok actions else with_action actions (action_of words)

-- what follows from the actions after the line of this number
abbrev pub and_then : ℕ → Result (List Action) ScriptWhy
    → (List Action → Result (List Action) ScriptNo) → Result (List Action) ScriptNo
and_then number (Ok actions) next = next actions
and_then number (Err why) next = Err (Bad number why)

-- the actions after lines, of which the first has this number
abbrev pub after_lines : ℕ → List Action → List (List ℕ) → Result (List Action) ScriptNo
after_lines number actions [] = Ok actions
after_lines number actions (line ∷ lines) =
    and_then number (after_line actions (words_of line))
    (λ next. after_lines (number + 1) next lines)

-- the actions that a text means, or the first reason why it means none
unfoldable pub script_of_text : List ℕ → Result (List Action) ScriptNo
script_of_text text = after_lines 1 [] (lines_of text)

-- an answer is this one, or out of memory
abbrev pub IsScriptOrMemory : Result (List Action) ScriptNo → Result (List Action) ScriptNo → Type 0
IsScriptOrMemory (Ok actions) meant = Ok actions ≡ meant
IsScriptOrMemory (Err (Bad line why)) meant = Err (Bad line why) ≡ meant
IsScriptOrMemory (Err Memory) meant = ⊤

-- a refusal is that of the line of this number, or out of memory
abbrev pub IsRefusedAt : {A : Type 0} → ℕ → Result A ScriptWhy → ScriptNo → Type 0
IsRefusedAt number meant (Bad line why) = (line ≡ number) × (meant ≡ Err why)
IsRefusedAt number meant Memory = ⊤
