-- Where the parts of a plan come to stand in an image.
use Rattle.std.specs.Prelude.{ℕ, ◌+◌, ◌-◌, ◌%◌, Bool, not, ◌&&◌, ◌||◌, ◌==◌, List, [], ◌∷◌, ◌++◌, length, map, replicate, Option, Some, None, if◌then◌else◌}
use Rattle.image_layout.specs.Space.{is_data, is_code}
use Rattle.image_layout.specs.Segment.{Segment, head_bytes, text, contents}
use Rattle.image_maker.specs.Plan.{PlannedPart}

-- a part: where it is loaded, and its bytes
pub record Part : Type 0 where
  pub load : ℕ
  pub content : List ℕ

-- the parts that the segments of a plan and the bytes of their files are
abbrev pub joined : List PlannedPart → List (List ℕ) → List Part
joined [] files = []
joined (part ∷ parts) [] = []
joined (part ∷ parts) (file ∷ files) =
    record { load = part.load; content = file } ∷ joined parts files

-- whether data of this load address and length are mapped through the cache
unfoldable pub is_mapped : ℕ → ℕ → Bool
is_mapped load len = not (len == 0) && (is_data load || is_code load)

-- by how much the data after a head at this place would stand too low for a load address, modulo
-- 64 KiB
abbrev pub gap : ℕ → ℕ → ℕ
gap at load = (load + 65536 - (at + 8) % 65536) % 65536

-- how many zeros a padding segment has that fills a gap with its head of 8 bytes: a gap of 4 has no
-- room for the head, so a page more is filled
abbrev pub fill : ℕ → ℕ
fill gap = if gap == 4 then 65532 else gap - 8

-- how many zeros the padding segment has that data with a head at this place want, where they want
-- one
unfoldable pub padding_of : ℕ → ℕ → ℕ → Option ℕ
padding_of at load len =
    if is_mapped load len then (if gap at load == 0 then None else Some (fill (gap at load)))
    else None

-- a segment of an image: so many zeros as padding, or a part
pub data Placed : Type 0 where
  Padding : ℕ → Placed
  Given : Part → Placed

-- a part at this place, after the padding that it wants, and what follows it
abbrev pub set_down : Option ℕ → Part → (ℕ → List Placed) → ℕ → List Placed
set_down None p next at = Given p ∷ next (at + 8 + length p.content)
set_down (Some filling) p next at =
    Padding filling ∷ Given p ∷ next (at + 8 + filling + 8 + length p.content)

-- the segments of an image that has these parts one after the other from this place on
abbrev pub placed : List Part → ℕ → List Placed
placed [] at = []
placed (p ∷ ps) at = set_down (padding_of at p.load (length p.content)) p (placed ps) at

-- the bytes of a head of this load address and length
abbrev pub head_with : ℕ → ℕ → List ℕ
head_with load len = head_bytes (record { load = load; length = len })

-- the segment with its head and its data
abbrev pub segment_of : Placed → Segment
segment_of (Padding filling) = record { head = head_with 0 filling; content = replicate filling 0 }
segment_of (Given p) = record { head = head_with p.load (length p.content); content = p.content }

-- the segments with their heads and data
abbrev pub segments_of : List Placed → List Segment
segments_of all = map segment_of all

-- the parts among the segments, without the padding
abbrev pub given : List Placed → List Part
given [] = []
given (Padding filling ∷ rest) = given rest
given (Given p ∷ rest) = p ∷ given rest

-- the bytes of parts from this place on
abbrev pub text_from : List Part → ℕ → List ℕ
text_from ps at = text (segments_of (placed ps at))

-- bytes, and then parts from their end on
abbrev pub with_parts : List ℕ → List Part → List ℕ
with_parts bytes ps = bytes ++ text_from ps (length bytes)

-- the data of parts from this place on
abbrev pub data_from : List Part → ℕ → List ℕ
data_from ps at = contents (segments_of (placed ps at))
