-- What the bytes of an image tell at a place.
use Rattle.std.specs.Prelude.{ℕ, ◌+◌, ◌*◌, List, [], ◌∷◌, ◌++◌, length, take, drop, slice_index}
use Rattle.byteorder.specs.Endian.{little_number}
use Rattle.image_layout.specs.Footer.{footer_end}
use Rattle.image_layout.specs.Segment.{Segment, load_of}
use Rattle.image_verify.specs.declared.info.SegmentNote.{SegmentNote}

-- the number of segments that the header tells
abbrev pub count_of : List ℕ → ℕ
count_of bytes = slice_index bytes 1

-- the byte of the header that flags a digest
abbrev pub flag_of : List ℕ → ℕ
flag_of bytes = slice_index bytes 23

-- the load address in the head at this place
abbrev pub load_at : List ℕ → ℕ → ℕ
load_at bytes at = little_number 4 (drop at bytes)

-- the length in the head at this place
abbrev pub length_at : List ℕ → ℕ → ℕ
length_at bytes at = little_number 4 (drop 4 (drop at bytes))

-- the segment whose head stands at this place
abbrev pub note_at : List ℕ → ℕ → SegmentNote
note_at bytes at = record { load = load_at bytes at; length = length_at bytes at; place = at + 8 }

-- the segments that stand one after the other from a place on
abbrev pub notes_from : ℕ → List Segment → List SegmentNote
notes_from at [] = []
notes_from at (s ∷ ss) =
    record { load = load_of s; length = length s.content; place = at + 8 }
    ∷ notes_from (at + 8 + length s.content) ss

-- how many bytes an image needs whose data end here so far, with so many heads still to come
abbrev pub need_of : ℕ → ℕ → ℕ → ℕ
need_of end heads flag = footer_end (end + 8 * heads) + 32 * flag

-- the data of the segments
abbrev pub data_of : List ℕ → List SegmentNote → List ℕ
data_of bytes [] = []
data_of bytes (note ∷ notes) = take note.length (drop note.place bytes) ++ data_of bytes notes
