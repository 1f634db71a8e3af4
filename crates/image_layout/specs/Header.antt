-- The header of an image and its 24 bytes.
use Rattle.std.specs.Prelude.{◌≡◌, ◌<◌, ◌^◌, ℕ, List, [], ◌∷◌, ◌++◌, length, take, drop, slice_index}
use Rattle.byteorder.specs.Endian.{little_number, little_bytes}
use Rattle.image_layout.specs.declared.header.Header.{Header}

-- the header that the first 24 bytes are
unfoldable pub header_of : List ℕ → Header
header_of bytes = record {
  magic = slice_index bytes 0;
  segments = slice_index bytes 1;
  mode = slice_index bytes 2;
  size_freq = slice_index bytes 3;
  entry = little_number 4 (drop 4 bytes);
  wp = slice_index bytes 8;
  drive = take 3 (drop 9 bytes);
  chip = little_number 2 (drop 12 bytes);
  old_rev = slice_index bytes 14;
  min_rev = little_number 2 (drop 15 bytes);
  max_rev = little_number 2 (drop 17 bytes);
  reserved = take 4 (drop 19 bytes);
  flag = slice_index bytes 23;
}

-- the 24 bytes of a header
unfoldable pub header_bytes : Header → List ℕ
header_bytes h =
    (h.magic ∷ h.segments ∷ h.mode ∷ h.size_freq ∷ [])
    ++ little_bytes 4 h.entry ++ (h.wp ∷ []) ++ h.drive ++ little_bytes 2 h.chip
    ++ (h.old_rev ∷ []) ++ little_bytes 2 h.min_rev ++ little_bytes 2 h.max_rev
    ++ h.reserved ++ (h.flag ∷ [])

-- each field has the size that it has in the bytes
pub record IsSized (h : Header) : Type 0 where
  pub entry : h.entry < 2 ^ 32
  pub drive : length h.drive ≡ 3
  pub chip : h.chip < 2 ^ 16
  pub min_rev : h.min_rev < 2 ^ 16
  pub max_rev : h.max_rev < 2 ^ 16
  pub reserved : length h.reserved ≡ 4
