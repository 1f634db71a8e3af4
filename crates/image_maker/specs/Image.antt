-- The image that a plan and its parts make.
use Rattle.std.specs.Prelude.{◌≡◌, ℕ, ◌-◌, Bool, List, [], ◌∷◌, ◌++◌, length, replicate, Option, Some, None, Result, Ok, Err, if◌then◌else◌, ⊤, Vec}
use Rattle.std.specs.declared.alloc.Global.{Global}
use Rattle.sha2.specs.Sha256.{sha256}
use Rattle.image_layout.specs.declared.header.Header.{Header}
use Rattle.image_layout.specs.Header.{header_bytes}
use Rattle.image_layout.specs.Footer.{footer_end}
use Rattle.image_layout.specs.Whole.{Whole, xor_all}
use Rattle.image_maker.specs.declared.refusal.MakeNo.{MakeNo}
use Rattle.image_maker.specs.declared.refusal.MakeNo.TheVariants as refusals
use Rattle.image_maker.specs.Plan.{Planned}
use Rattle.image_maker.specs.Placing.{Part, Placed, joined, placed, segments_of, given, text_from, data_from}
use Rattle.image_maker.specs.Refused.{make_fault}

-- the header of a plan's image with so many segments
unfoldable pub header_of_plan : Planned → ℕ → Header
header_of_plan plan count = record {
  magic = 0xE9;
  segments = count;
  mode = plan.mode;
  size_freq = plan.size_freq;
  entry = plan.entry;
  wp = 0xEE;
  drive = 0 ∷ 0 ∷ 0 ∷ [];
  chip = 0;
  old_rev = 0;
  min_rev = 0;
  max_rev = 0;
  reserved = 0 ∷ 0 ∷ 0 ∷ 0 ∷ [];
  flag = if plan.hash then 1 else 0;
}

-- bytes, then zeros and a checksum up to the next multiple of 16
abbrev pub with_footer : List ℕ → ℕ → List ℕ
with_footer bytes sum =
    bytes ++ replicate (footer_end (length bytes) - length bytes - 1) 0 ++ (sum ∷ [])

-- bytes, then their digest where one is wanted
abbrev pub with_digest : Bool → List ℕ → List ℕ
with_digest hash bytes = bytes ++ (if hash then sha256 bytes else [])

-- header and segments of the image of a plan with these parts
abbrev pub body_of : Planned → List Part → List ℕ
body_of plan ps = header_bytes (header_of_plan plan (length (placed ps 24))) ++ text_from ps 24

-- the bytes of the image of a plan with these parts
unfoldable pub bytes_of : Planned → List Part → List ℕ
bytes_of plan ps =
    with_digest plan.hash (with_footer (body_of plan ps) (xor_all 0xEF (data_from ps 24)))

-- bytes, unless there is a reason why there are none
abbrev pub unless : Option MakeNo → List ℕ → Result (List ℕ) MakeNo
unless None bytes = Ok bytes
unless (Some why) bytes = Err why

-- the image of a plan whose files have these bytes, or the first reason why there is none
unfoldable pub image_of : Planned → List (List ℕ) → Result (List ℕ) MakeNo
image_of plan files =
    unless (make_fault plan.hash (joined plan.parts files))
    (bytes_of plan (joined plan.parts files))

-- an answer is this one, or out of memory
abbrev pub IsImageOrMemory : Result (Vec ℕ Global) MakeNo → Result (List ℕ) MakeNo → Type 0
IsImageOrMemory (Ok image) meant = Ok image.items ≡ meant
IsImageOrMemory (Err refusals.NoSegments) meant = Err refusals.NoSegments ≡ meant
IsImageOrMemory (Err (refusals.OddLength n)) meant = Err (refusals.OddLength n) ≡ meant
IsImageOrMemory (Err (refusals.OddAddress n)) meant = Err (refusals.OddAddress n) ≡ meant
IsImageOrMemory (Err (refusals.SpaceEnd n)) meant = Err (refusals.SpaceEnd n) ≡ meant
IsImageOrMemory (Err (refusals.Overlap a b)) meant = Err (refusals.Overlap a b) ≡ meant
IsImageOrMemory (Err (refusals.TooManySegments n)) meant = Err (refusals.TooManySegments n) ≡ meant
IsImageOrMemory (Err (refusals.TooLong n)) meant = Err (refusals.TooLong n) ≡ meant
IsImageOrMemory (Err refusals.Memory) meant = ⊤

-- the bytes are a whole image of at most 16 MiB, whose segments without the padding ones are the
-- plan's, in its order, with these files as their data
pub record IsMade (plan : Planned) (files : List (List ℕ)) (bytes : List ℕ) : Type 0 where
  pub whole : Whole bytes 16777216
  pub placing : List Placed
  pub segments : whole.parts.segments ≡ segments_of placing
  pub given : given placing ≡ joined plan.parts files
