-- Why the parts of a plan make no image.
use Rattle.std.specs.Prelude.{ℕ, ◌+◌, ◌-◌, ◌^◌, ◌%◌, Bool, false, not, ◌&&◌, ◌==◌, nat_lt, min, List, [], ◌∷◌, length, Option, Some, None, if◌then◌else◌}
use Rattle.std.specs.Option.{option_or}
use Rattle.image_layout.specs.Space.{is_data, is_code}
use Rattle.image_layout.specs.Footer.{footer_end}
use Rattle.image_maker.specs.declared.refusal.MakeNo.{MakeNo}
use Rattle.image_maker.specs.declared.refusal.MakeNo.TheVariants.{NoSegments, OddLength, OddAddress, SpaceEnd, Overlap, TooManySegments, TooLong}
use Rattle.image_maker.specs.Placing.{Part, is_mapped, placed, text_from}

-- whether data that begin in a space end behind it
unfoldable pub leaves_space : ℕ → ℕ → Bool
leaves_space load len =
    not (len == 0) && (if is_data load then nat_lt 0x3F800000 (load + len)
    else (if is_code load then nat_lt 0x40400000 (load + len) else false))

-- why the part of this number can be no segment, the first reason in this order
unfoldable pub part_fault : ℕ → ℕ → ℕ → Option MakeNo
part_fault number load len =
    if not (len % 4 == 0) then Some (OddLength number)
    else (if is_mapped load len && not (load % 4 == 0) then Some (OddAddress number)
    else (if leaves_space load len then Some (SpaceEnd number) else None))

-- the first reason why parts, numbered from this one on, can be no segments
abbrev pub parts_fault : ℕ → List Part → Option MakeNo
parts_fault number [] = None
parts_fault number (p ∷ ps) =
    option_or (part_fault number p.load (length p.content)) (parts_fault (number + 1) ps)

-- whether two ranges of load addresses have one in common; an empty one has none
unfoldable pub meets : ℕ → ℕ → ℕ → ℕ → Bool
meets load len other other_len =
    not (len == 0) && not (other_len == 0) && nat_lt load (other + other_len)
    && nat_lt other (load + len)

-- the first of parts, numbered from this one on, whose range of load addresses meets this one
abbrev pub first_met : ℕ → ℕ → ℕ → List Part → Option ℕ
first_met load len number [] = None
first_met load len number (p ∷ ps) =
    if meets load len p.load (length p.content) then Some number
    else first_met load len (number + 1) ps

-- the first of parts, numbered from this one on, that meets the part before them
abbrev pub met_by_first : ℕ → List Part → Option ℕ
met_by_first number [] = None
met_by_first number (p ∷ ps) = first_met p.load (length p.content) (number + 1) ps

-- two parts that meet, where there is a second one
abbrev pub overlap : ℕ → Option ℕ → Option MakeNo
overlap a None = None
overlap a (Some b) = Some (Overlap a b)

-- the first two of parts, numbered from this one on, whose ranges meet: the least first one, then the
-- least second one
abbrev pub overlap_fault : ℕ → List Part → Option MakeNo
overlap_fault number [] = None
overlap_fault number (p ∷ ps) =
    option_or (overlap number (met_by_first number (p ∷ ps))) (overlap_fault (number + 1) ps)

-- the length of an image whose data end at this place
abbrev pub length_of : ℕ → Bool → ℕ
length_of end hash = footer_end end + (if hash then 32 else 0)

-- why so many segments, whose data end at this place, make no image
unfoldable pub size_fault : ℕ → ℕ → Bool → Option MakeNo
size_fault count end hash =
    if nat_lt 16 count then Some (TooManySegments count)
    else (if nat_lt 16777216 (length_of end hash)
    then Some (TooLong (min (length_of end hash) (2 ^ 64 - 1))) else None)

-- the first reason why parts make no image, with a digest or without one
unfoldable pub make_fault : Bool → List Part → Option MakeNo
make_fault hash ps =
    if length ps == 0 then Some NoSegments
    else option_or (parts_fault 0 ps) (option_or (overlap_fault 0 ps)
    (size_fault (length (placed ps 24)) (24 + length (text_from ps 24)) hash))
