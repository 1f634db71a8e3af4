-- What the text of a plan means.
use Rattle.std.specs.Prelude.{ℕ, ◌+◌, Bool, true, false, not, ◌&&◌, ◌==◌, nat_le, List, [], ◌∷◌, ◌++◌, length, slice_index, codes, bytes_eq, Option, Some, None, Result, Ok, Err, if◌then◌else◌, ⊤, ◌≡◌}
use Rattle.std.specs.Option.{is_some, unwrap_or}
use Rattle.std.specs.Str.{is_utf8}
use Rattle.pipe_ends.specs.Number.{number_up_to}
use Rattle.pipe_ends.specs.Words.{begins, is_skipped, lines_of, word_in, words_of}
use Rattle.image_maker.specs.declared.draft.Draft.{Draft}
use Rattle.image_maker.specs.declared.part.Flash.{Flash}
use Rattle.image_maker.specs.declared.refusal.PlanNo.{PlanNo}
use Rattle.image_maker.specs.declared.refusal.PlanNo.TheVariants.{Bad, Memory}
use Rattle.image_maker.specs.declared.refusal.PlanWhy.{PlanWhy}
use Rattle.image_maker.specs.declared.refusal.PlanWhy.TheVariants.{Word, Count, Number, Choice, Twice, TooMany, Name, NoEntry}
use Rattle.image_maker.specs.Plan.{Planned, PlannedPart, parts_of}

-- what the lines of a plan said so far
pub record Drafted : Type 0 where
  pub entry : Option ℕ
  pub flash : Option Flash
  pub hash : Option Bool
  pub parts : List PlannedPart

-- a draft without its memory
abbrev pub drafted : Draft → Drafted
drafted draft = record {
  entry = draft.entry;
  flash = draft.flash;
  hash = draft.hash;
  parts = parts_of draft.lines.items;
}

-- no line came yet
abbrev pub nothing : Drafted
nothing = record { entry = None; flash = None; hash = None; parts = [] }

-- ---- one line

-- what a value gives, or why there is none
abbrev pub need : {A B : Type 0} → Option A → PlanWhy → (A → Result B PlanWhy) → Result B PlanWhy
need None why next = Err why
need (Some x) why next = next x

-- what words give, if there are so many
abbrev pub counted : {B : Type 0} → ℕ → List (List ℕ) → Result B PlanWhy → Result B PlanWhy
counted n words next = if length words == n then next else Err Count

-- a value, if none came before
abbrev pub once : {A : Type 0} → Option A → A → Result A PlanWhy
once old x = if is_some old then Err Twice else Ok x

-- the choice of a word
unfoldable pub choice_of : List ℕ → Option Bool
choice_of word =
    if bytes_eq word (codes "on") then Some true
    else (if bytes_eq word (codes "off") then Some false else None)

-- whether a word is the name of a file: it does not begin with a minus sign, and is UTF-8
unfoldable pub is_name : List ℕ → Bool
is_name word = not (slice_index word 0 == 45) && is_utf8 word

-- the entry address of a line `entry N`
unfoldable pub entry_of : List (List ℕ) → Option ℕ → Result ℕ PlanWhy
entry_of words old =
    counted 2 words (need (number_up_to 0xFFFFFFFF (word_in 1 words)) Number (λ n. once old n))

-- the bytes 2 and 3 of the header by a line `flash M S`
unfoldable pub flash_of : List (List ℕ) → Option Flash → Result Flash PlanWhy
flash_of words old =
    counted 3 words (need (number_up_to 255 (word_in 1 words)) Number (λ mode.
    need (number_up_to 255 (word_in 2 words)) Number (λ size_freq.
    once old (record { mode = mode; size_freq = size_freq }))))

-- whether a digest is appended by a line `hash on` or `hash off`
unfoldable pub hash_of : List (List ℕ) → Option Bool → Result Bool PlanWhy
hash_of words old = counted 2 words (need (choice_of (word_in 1 words)) Choice (λ on. once old on))

-- the segment of a line `segment N FILE`, where so many came before
unfoldable pub part_in : List (List ℕ) → ℕ → Result PlannedPart PlanWhy
part_in words count =
    counted 3 words (need (number_up_to 0xFFFFFFFF (word_in 1 words)) Number (λ load.
    if nat_le 64 count then Err TooMany
    else (if is_name (word_in 2 words) then Ok (record { load = load; name = word_in 2 words })
    else Err Name)))

-- what a value makes of a draft, or why there is none
abbrev pub changed : {A : Type 0} → (A → Drafted) → Result A PlanWhy → Result Drafted PlanWhy
changed change (Ok x) = Ok (change x)
changed change (Err why) = Err why

-- the draft after a line of another kind than a segment
unfoldable pub after_setting : Drafted → List (List ℕ) → Result Drafted PlanWhy
after_setting draft words =
    if begins words (codes "entry")
    then changed (λ n. record draft { entry = Some n }) (entry_of words draft.entry)
    else (if begins words (codes "flash")
    then changed (λ f. record draft { flash = Some f }) (flash_of words draft.flash)
    else (if begins words (codes "hash")
    then changed (λ h. record draft { hash = Some h }) (hash_of words draft.hash)
    else Err Word))

-- the draft after a line of a segment
abbrev pub with_part : Drafted → List (List ℕ) → Result Drafted PlanWhy
with_part draft words =
    changed (λ part. record draft { parts = draft.parts ++ part ∷ [] })
    (part_in words (length draft.parts))

-- the draft after a line with these words, or the first reason against it
unfoldable pub after_line : Drafted → List (List ℕ) → Result Drafted PlanWhy
after_line draft words =
    if is_skipped words then Ok draft
    else (if begins words (codes "segment")
    then with_part draft words
    else after_setting draft words)

-- ---- all lines

-- what follows from the draft after the line of this number
abbrev pub and_then : {B : Type 0} → ℕ → Result Drafted PlanWhy → (Drafted → Result B PlanNo)
    → Result B PlanNo
and_then number (Ok draft) next = next draft
and_then number (Err why) next = Err (Bad number why)

-- the draft after lines, of which the first has this number
abbrev pub after_lines : ℕ → Drafted → List (List ℕ) → Result Drafted PlanNo
after_lines number draft [] = Ok draft
after_lines number draft (line ∷ lines) =
    and_then number (after_line draft (words_of line)) (λ next. after_lines (number + 1) next lines)

-- the flash setting where no line says one
abbrev pub usual_flash : Flash
usual_flash = record { mode = 0x02; size_freq = 0x20 }

-- the plan of a draft with this entry address
abbrev pub plan_with : Drafted → ℕ → Planned
plan_with draft entry = record {
  entry = entry;
  mode = (unwrap_or draft.flash usual_flash).mode;
  size_freq = (unwrap_or draft.flash usual_flash).size_freq;
  hash = unwrap_or draft.hash true;
  parts = draft.parts;
}

-- the plan of a draft, where there is an entry address; else it is missed behind so many lines
abbrev pub plan_by : ℕ → Drafted → Option ℕ → Result Planned PlanNo
plan_by count draft None = Err (Bad count NoEntry)
plan_by count draft (Some entry) = Ok (plan_with draft entry)

-- the plan of what all lines, so many, said
abbrev pub finished : ℕ → Result Drafted PlanNo → Result Planned PlanNo
finished count (Ok draft) = plan_by count draft draft.entry
finished count (Err refusal) = Err refusal

-- the plan that a text means, or the first reason why it means none
unfoldable pub plan_of_text : List ℕ → Result Planned PlanNo
plan_of_text text = finished (length (lines_of text)) (after_lines 1 nothing (lines_of text))

-- an answer is this one, or out of memory
abbrev pub IsPlanOrMemory : Result Planned PlanNo → Result Planned PlanNo → Type 0
IsPlanOrMemory (Ok plan) meant = Ok plan ≡ meant
IsPlanOrMemory (Err (Bad line why)) meant = Err (Bad line why) ≡ meant
IsPlanOrMemory (Err Memory) meant = ⊤

-- a refusal is that of the line of this number, or out of memory
abbrev pub IsRefusedAt : ℕ → Result Drafted PlanWhy → PlanNo → Type 0
IsRefusedAt number meant (Bad line why) = (line ≡ number) × (meant ≡ Err why)
IsRefusedAt number meant Memory = ⊤
