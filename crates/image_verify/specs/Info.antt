-- What is told of a whole image.
use Rattle.std.specs.Prelude.{◌≡◌, ◌↔◌, ◌++◌, ◌∷◌, [], ◌&&◌, nat_lt, if◌then◌else◌, Bool, ℕ, IsTrue, List, length, Option, Some, None}
use Rattle.image_layout.specs.declared.space.Space.{Space}
use Rattle.image_layout.specs.declared.space.Space.TheVariants.{Data, Code}
use Rattle.image_layout.specs.Space.{is_data, is_code}
use Rattle.image_layout.specs.Header.{header_of}
use Rattle.image_layout.specs.Description.{description_of}
use Rattle.image_layout.specs.Whole.{Parts, summed, IsImage}
use Rattle.image_verify.specs.declared.bad.BadImage.{BadImage}
use Rattle.image_verify.specs.declared.info.ImageInfo.{ImageInfo}
use Rattle.image_verify.specs.declared.info.SegmentNote.{SegmentNote}
use Rattle.image_verify.specs.declared.feed.Fed.{Fed}
use Rattle.image_verify.specs.declared.feed.Fed.TheVariants.{More, Bad}
use Rattle.image_verify.specs.Places.{notes_from}
use Rattle.image_verify.specs.Walk.{plan}
use Rattle.image_verify.specs.Held.{held}
use Rattle.image_verify.specs.Fed.{notes_in}

-- the segments of a whole image, by its heads
unfoldable pub segments_of : List ℕ → List SegmentNote
segments_of bytes = notes_in (plan (length bytes) bytes)

-- its length, its entry address, whether a digest is appended, its segments with their places, and its description
pub record IsInfo (bytes : List ℕ) (info : ImageInfo) : Type 0 where
  pub long : info.length ≡ length bytes
  pub entry : info.entry ≡ (header_of bytes).entry
  pub flagged : IsTrue info.flagged ↔ ((header_of bytes).flag ≡ 1)
  pub segments : (p : Parts) → IsImage p → bytes ≡ summed p ++ p.digest
      → info.segments.items ≡ notes_from 24 p.segments
  pub heads : info.segments.items ≡ segments_of bytes
  pub desc : info.desc ≡ description_of bytes

-- the answer to a piece, by the fault that shows so far
abbrev pub answer_of : Option BadImage → Fed
answer_of None = More
answer_of (Some bad) = Bad bad

-- what is told of the image that the bytes of a slot hold
pub record HoldsWith (slot : List ℕ) (info : ImageInfo) : Type 0 where
  pub image : List ℕ
  pub holds : held slot ≡ Some image
  pub told : IsInfo image info

-- the address lies in this space
abbrev pub is_in : Space → ℕ → Bool
is_in Data at = is_data at
is_in Code at = is_code at

-- the segment is mapped into this space: it has data, and its load address lies there
abbrev pub is_mapped : Space → SegmentNote → Bool
is_mapped space note = nat_lt 0 note.length && is_in space note.load

-- the later of two segments, where there is one
abbrev pub later : Option SegmentNote → Option SegmentNote → Option SegmentNote
later (Some note) before = Some note
later None before = before

-- the last segment that is mapped into this space
abbrev pub mapped_in : Space → List SegmentNote → Option SegmentNote
mapped_in space [] = None
mapped_in space (note ∷ notes) =
    later (mapped_in space notes) (if is_mapped space note then Some note else None)
