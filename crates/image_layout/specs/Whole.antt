-- What a whole image is, said of a list of bytes at once.
use Rattle.std.specs.Prelude.{◌≡◌, ◌≤◌, ℕ, ◌+◌, List, [], ◌∷◌, ◌++◌, length, drop, slice_index, bit_xor}
use Rattle.byteorder.specs.Endian.{little_number}
use Rattle.sha2.specs.Sha256.{sha256}
use Rattle.image_layout.specs.Footer.{footer_end}
use Rattle.image_layout.specs.Segment.{Segment, AreSegments, text, contents}

-- the parts that an image is made of
pub record Parts : Type 0 where
  pub header : List ℕ
  pub segments : List Segment
  pub padding : List ℕ
  pub checksum : ℕ
  pub digest : List ℕ

-- the place where the last segment's data end
abbrev pub data_end : Parts → ℕ
data_end p = 24 + length (text p.segments)

-- header, segments, padding and checksum: what the digest is taken of
abbrev pub summed : Parts → List ℕ
summed p = p.header ++ text p.segments ++ p.padding ++ (p.checksum ∷ [])

-- the exclusive or of a number with all bytes
abbrev pub xor_all : ℕ → List ℕ → ℕ
xor_all sum [] = sum
xor_all sum (byte ∷ bytes) = xor_all (bit_xor sum byte) bytes

-- header, segments, footer and digest obey the rules of the format
pub record IsImage (p : Parts) : Type 0 where
  pub header : length p.header ≡ 24
  pub magic : slice_index p.header 0 ≡ 0xE9
  pub count : slice_index p.header 1 ≡ length p.segments
  pub some : 1 ≤ length p.segments
  pub most : length p.segments ≤ 16
  pub chip : little_number 2 (drop 12 p.header) ≡ 0
  pub flag : slice_index p.header 23 ≤ 1
  pub segments : AreSegments 24 p.segments
  pub padding : data_end p + length p.padding + 1 ≡ footer_end (data_end p)
  pub checksum : p.checksum ≡ xor_all 0xEF (contents p.segments)
  pub unflagged : slice_index p.header 23 ≡ 0 → p.digest ≡ []
  pub flagged : slice_index p.header 23 ≡ 1 → p.digest ≡ sha256 (summed p)

-- the bytes are a whole image of at most so many bytes
pub record Whole (bytes : List ℕ) (limit : ℕ) : Type 0 where
  pub parts : Parts
  pub image : IsImage parts
  pub text : bytes ≡ summed parts ++ parts.digest
  pub fits : length bytes ≤ limit
