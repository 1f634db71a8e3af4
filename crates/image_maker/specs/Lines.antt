-- What a plan is, whatever the order in which its lines are read.
use Rattle.std.specs.Prelude.{◌≡◌, ℕ, ◌≤◌, Bool, true, List, [], ◌∷◌, ◌++◌, length, map, codes, None, Result, Ok, Err, if◌then◌else◌}
use Rattle.pipe_ends.specs.Words.{begins, is_skipped, lines_of, words_of}
use Rattle.image_maker.specs.declared.part.Flash.{Flash}
use Rattle.image_maker.specs.declared.refusal.PlanWhy.{PlanWhy}
use Rattle.image_maker.specs.declared.refusal.PlanWhy.TheVariants.{Word}
use Rattle.image_maker.specs.Plan.{Planned, PlannedPart}
use Rattle.image_maker.specs.PlanText.{entry_of, flash_of, hash_of, part_in, usual_flash}

-- what a line says: the entry address, bytes 2 and 3 of the header, whether a digest is appended, or
-- a segment
pub data Said : Type 0 where
  EntryIs : ℕ → Said
  FlashIs : Flash → Said
  HashIs : Bool → Said
  SegmentIs : PlannedPart → Said

-- what a line says by the value in it
abbrev pub as_said : {A : Type 0} → (A → Said) → Result A PlanWhy → Result Said PlanWhy
as_said say (Ok x) = Ok (say x)
as_said say (Err why) = Err why

-- what a line with these words says by itself, or the first reason against it
unfoldable pub said_of : List (List ℕ) → Result Said PlanWhy
said_of words =
    if begins words (codes "segment") then as_said SegmentIs (part_in words 0)
    else (if begins words (codes "entry") then as_said EntryIs (entry_of words None)
    else (if begins words (codes "flash") then as_said FlashIs (flash_of words None)
    else (if begins words (codes "hash") then as_said HashIs (hash_of words None) else Err Word)))

-- the words of the lines that say something
abbrev pub told_of : List (List ℕ) → List (List (List ℕ))
told_of [] = []
told_of (line ∷ lines) =
    if is_skipped (words_of line) then told_of lines else words_of line ∷ told_of lines

-- the entry address that a line says
abbrev pub entry_in : Said → List ℕ
entry_in (EntryIs n) = n ∷ []
entry_in (FlashIs flash) = []
entry_in (HashIs on) = []
entry_in (SegmentIs part) = []

-- the bytes 2 and 3 of the header that a line says
abbrev pub flash_in : Said → List Flash
flash_in (EntryIs n) = []
flash_in (FlashIs flash) = flash ∷ []
flash_in (HashIs on) = []
flash_in (SegmentIs part) = []

-- whether a digest is appended, as a line says
abbrev pub hash_in : Said → List Bool
hash_in (EntryIs n) = []
hash_in (FlashIs flash) = []
hash_in (HashIs on) = on ∷ []
hash_in (SegmentIs part) = []

-- the segment that a line says
abbrev pub segment_in : Said → List PlannedPart
segment_in (EntryIs n) = []
segment_in (FlashIs flash) = []
segment_in (HashIs on) = []
segment_in (SegmentIs part) = part ∷ []

-- what all lines say of one kind, in order
abbrev pub all_in : {A : Type 0} → (Said → List A) → List Said → List A
all_in kind [] = []
all_in kind (one ∷ rest) = kind one ++ all_in kind rest

-- a value is the one that is said at most once, or the usual one where none is said
abbrev pub IsSaidOnce : {A : Type 0} → List A → A → A → Type 0
IsSaidOnce [] usual x = x ≡ usual
IsSaidOnce (y ∷ []) usual x = x ≡ y
IsSaidOnce (y ∷ z ∷ more) usual x = ⊥

-- a text has this plan: each of its lines that says something says one thing; the entry address is
-- said once, the bytes for the flash and the choice of a digest at most once, and the segments are
-- those that are said, in order, 64 at most
pub record IsPlanOf (text : List ℕ) (plan : Planned) : Type 0 where
  pub said : List Said
  pub lines : map said_of (told_of (lines_of text)) ≡ map Ok said
  pub entry : all_in entry_in said ≡ plan.entry ∷ []
  pub flash : IsSaidOnce (all_in flash_in said) usual_flash
      (record { mode = plan.mode; size_freq = plan.size_freq })
  pub hash : IsSaidOnce (all_in hash_in said) true plan.hash
  pub segments : all_in segment_in said ≡ plan.parts
  pub few : length plan.parts ≤ 64
