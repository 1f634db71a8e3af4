-- The application description, which stands in the data of the first segment.
use Rattle.std.specs.Prelude.{ℕ, ◌==◌, ◌&&◌, Bool, nat_le, if◌then◌else◌, List, length, take, drop, Option, Some, None}
use Rattle.byteorder.specs.Endian.{little_number}
use Rattle.image_layout.specs.declared.description.AppDesc.{AppDesc}

-- whether the image has one: it has at least 112 bytes, and the mark stands at 32
unfoldable pub has_description : List ℕ → Bool
has_description image = nat_le 112 (length image) && (little_number 4 (drop 32 image) == 0xABCD5432)

-- the description whose fields stand at 32
unfoldable pub description_at : List ℕ → AppDesc
description_at image = record {
  secure = little_number 4 (drop 36 image);
  version = take 32 (drop 48 image);
  project = take 32 (drop 80 image);
}

-- the description of an image, if it has one
unfoldable pub description_of : List ℕ → Option AppDesc
description_of image = if has_description image then Some (description_at image) else None
