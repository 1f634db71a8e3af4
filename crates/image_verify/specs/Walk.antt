-- Bytes are read from head to head, as far as they go or until they show a fault.
use Rattle.std.specs.Prelude.{ℕ, zero, suc, ◌+◌, ◌%◌, ◌==◌, Bool, not, ◌&&◌, ◌||◌, nat_lt, if◌then◌else◌, List, [], ◌∷◌, ◌++◌, length, take, drop, slice_index, Option, Some, None}
use Rattle.byteorder.specs.Endian.{little_number}
use Rattle.image_layout.specs.Space.{may_load}
use Rattle.image_verify.specs.declared.bad.BadImage.{BadImage}
use Rattle.image_verify.specs.declared.bad.BadImage.TheVariants.{Magic, Segments, Chip, Flag, Length, Address, TooLarge}
use Rattle.image_verify.specs.declared.info.SegmentNote.{SegmentNote}
use Rattle.image_verify.specs.Places.{count_of, flag_of, load_at, length_at, note_at, need_of}

-- where the reading of some bytes has come to: to a fault; not to the end of the header; or to the place where the last
-- data end that a head told of, with so many heads to come and these segments so far
pub data Walk : Type 0 where
  Faulty : BadImage → Walk
  Begins : Walk
  Reads : ℕ → ℕ → List SegmentNote → Walk

-- a fault, where a test finds it
abbrev pub fails : Bool → BadImage → Option BadImage
fails found bad = if found then Some bad else None

-- the first of two faults
abbrev pub first : Option BadImage → Option BadImage → Option BadImage
first (Some bad) other = Some bad
first None other = other

-- a fault ends the reading, which goes on where there is none
abbrev pub unless : Option BadImage → Walk → Walk
unless (Some bad) walk = Faulty bad
unless None walk = walk

-- the first byte of these is no magic
abbrev pub magic_fault : List ℕ → Option BadImage
magic_fault bytes =
    fails (nat_lt 0 (length bytes) && not (slice_index bytes 0 == 0xE9)) (Magic (slice_index bytes 0))

-- the number of segments is not 1 to 16
abbrev pub segments_fault : List ℕ → Option BadImage
segments_fault bytes =
    fails (nat_lt 1 (length bytes) && ((count_of bytes == 0) || nat_lt 16 (count_of bytes)))
    (Segments (count_of bytes))

-- the chip is not number 0
abbrev pub chip_fault : List ℕ → Option BadImage
chip_fault bytes =
    fails (nat_lt 13 (length bytes) && not (little_number 2 (drop 12 bytes) == 0))
    (Chip (little_number 2 (drop 12 bytes)))

-- the flag is neither 0 nor 1
abbrev pub flag_fault : List ℕ → Option BadImage
flag_fault bytes = fails (nat_lt 23 (length bytes) && nat_lt 1 (flag_of bytes)) (Flag (flag_of bytes))

-- the first fault that a header shows as far as it has come
unfoldable pub header_fault : List ℕ → Option BadImage
header_fault bytes =
    first (magic_fault bytes) (first (segments_fault bytes) (first (chip_fault bytes) (flag_fault bytes)))

-- the image needs more bytes than the limit
abbrev pub limit_fault : ℕ → ℕ → Option BadImage
limit_fault limit need = fails (nat_lt limit need) (TooLarge need limit)

-- the first fault of a head: of its length, of its address, or of what the image needs with so many heads after it
unfoldable pub head_fault : ℕ → ℕ → ℕ → ℕ → ℕ → ℕ → ℕ → Option BadImage
head_fault limit flag segment load len at heads =
    first (fails (not (len % 4 == 0)) (Length segment len))
    (first (fails (not (may_load load len (at + 8))) (Address segment load))
    (limit_fault limit (need_of (at + 8 + len) heads flag)))

-- the first fault of the head at this place
abbrev pub fault_at : ℕ → ℕ → List ℕ → ℕ → ℕ → ℕ → Option BadImage
fault_at limit flag bytes segment at heads =
    head_fault limit flag segment (load_at bytes at) (length_at bytes at) at heads

-- from a place on, with so many heads to come and these segments before it
unfoldable pub walk : ℕ → ℕ → List ℕ → ℕ → ℕ → List SegmentNote → Walk
walk limit flag bytes zero at notes = Reads zero at notes
walk limit flag bytes (suc heads) at notes =
    if nat_lt (length bytes) (at + 8) then Reads (suc heads) at notes
    else unless (fault_at limit flag bytes (length notes) at heads)
    (walk limit flag bytes heads (at + 8 + length_at bytes at) (notes ++ note_at bytes at ∷ []))

-- from the end of a header without a fault on
unfoldable pub opened : ℕ → List ℕ → Walk
opened limit bytes =
    unless (limit_fault limit (need_of 24 (count_of bytes) (flag_of bytes)))
    (walk limit (flag_of bytes) bytes (count_of bytes) 24 [])

-- from the first byte on
unfoldable pub plan : ℕ → List ℕ → Walk
plan limit bytes =
    unless (header_fault (take 24 bytes))
    (if nat_lt (length bytes) 24 then Begins else opened limit bytes)
