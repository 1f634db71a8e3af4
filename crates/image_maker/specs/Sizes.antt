-- The size of an image, part by part.
use Rattle.std.specs.Prelude.{◌≡◌, ℕ, ◌+◌, List, length, Option, Some, None}
use Rattle.image_maker.specs.declared.place.Size.{Size}
use Rattle.image_maker.specs.Placing.{Part, placed, text_from}

-- the image of these parts has this size: so many segments, and data that end there
pub record IsSizeOf (ps : List Part) (size : Size) : Type 0 where
  pub count : size.count ≡ length (placed ps 24)
  pub end : size.end ≡ 24 + length (text_from ps 24)

-- a size with one part more, after the padding that it wants
abbrev pub size_after : ℕ → ℕ → Option ℕ → ℕ → Size
size_after count end None len = record { count = count + 1; end = end + 8 + len }
size_after count end (Some filling) len =
    record { count = count + 2; end = end + 8 + filling + 8 + len }
