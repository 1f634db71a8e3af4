-- The head of a segment and its 8 bytes, and a segment as its head with its data.
use Rattle.std.specs.Prelude.{◌≡◌, ◌<◌, ◌^◌, ℕ, ◌+◌, ◌%◌, true, List, [], ◌∷◌, ◌++◌, length, drop}
use Rattle.byteorder.specs.Endian.{little_number, little_bytes}
use Rattle.image_layout.specs.declared.segment.SegmentHead.{SegmentHead}
use Rattle.image_layout.specs.Space.{may_load}

-- the head that the first 8 bytes are
unfoldable pub head_of : List ℕ → SegmentHead
head_of bytes = record { load = little_number 4 bytes; length = little_number 4 (drop 4 bytes) }

-- the 8 bytes of a head
unfoldable pub head_bytes : SegmentHead → List ℕ
head_bytes h = little_bytes 4 h.load ++ little_bytes 4 h.length

-- both fields fit 32 bits
pub record IsHead (h : SegmentHead) : Type 0 where
  pub load : h.load < 2 ^ 32
  pub length : h.length < 2 ^ 32

-- a segment: the bytes of its head, and its data
pub record Segment : Type 0 where
  pub head : List ℕ
  pub content : List ℕ

-- the load address that its head tells
abbrev pub load_of : Segment → ℕ
load_of s = little_number 4 s.head

-- the segment may stand at this place of an image: its head tells the length of its data, a multiple of 4, and its data
-- may be loaded from there
pub record IsSegment (at : ℕ) (s : Segment) : Type 0 where
  pub head : length s.head ≡ 8
  pub counted : little_number 4 (drop 4 s.head) ≡ length s.content
  pub words : length s.content % 4 ≡ 0
  pub space : may_load (load_of s) (length s.content) (at + 8) ≡ true

-- the segments may stand one after the other from this place on
abbrev pub AreSegments : ℕ → List Segment → Type 0
AreSegments at [] = Unit {0}
AreSegments at (s ∷ ss) = IsSegment at s × AreSegments (at + 8 + length s.content) ss

-- the bytes of segments, each its head and then its data
abbrev pub text : List Segment → List ℕ
text [] = []
text (s ∷ ss) = s.head ++ s.content ++ text ss

-- the data of segments, one after the other
abbrev pub contents : List Segment → List ℕ
contents [] = []
contents (s ∷ ss) = s.content ++ contents ss
