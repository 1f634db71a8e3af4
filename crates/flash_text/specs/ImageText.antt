-- The lines of an image, and what is wrong with one, with its plan or with its parts, in words.
use Rattle.std.specs.Prelude.{ℕ, ◌+◌, Bool, List, [], ◌∷◌, ◌++◌, Option, Some, None, if◌then◌else◌, codes, decimal}
use Rattle.image_layout.specs.Space.{is_data, is_code}
use Rattle.image_layout.specs.declared.description.AppDesc.{AppDesc}
use Rattle.image_maker.specs.declared.refusal.PlanWhy.{PlanWhy}
use Rattle.image_maker.specs.declared.refusal.PlanWhy.TheVariants as why
use Rattle.image_maker.specs.declared.refusal.MakeNo.{MakeNo}
use Rattle.image_maker.specs.declared.refusal.MakeNo.TheVariants.{NoSegments, OddLength, OddAddress, SpaceEnd, Overlap, TooManySegments, TooLong, Memory}
use Rattle.image_verify.specs.declared.bad.BadImage.{BadImage}
use Rattle.image_verify.specs.declared.bad.BadImage.TheVariants.{Magic, Segments, Chip, Flag, Length, Address, TooLarge, Short, Trailing, Checksum, Digest}
use Rattle.image_verify.specs.declared.info.SegmentNote.{SegmentNote}
use Rattle.flash_text.specs.TableText.{hex_number, pair_text, shown_text}

-- what is wrong with a line of a plan, in a word
abbrev pub plan_why_text : PlanWhy → List ℕ
plan_why_text why.Word = codes "word"
plan_why_text why.Count = codes "count"
plan_why_text why.Number = codes "number"
plan_why_text why.Choice = codes "choice"
plan_why_text why.Twice = codes "twice"
plan_why_text why.TooMany = codes "toomany"
plan_why_text why.Name = codes "name"
plan_why_text why.NoEntry = codes "noentry"

-- what is wrong with the line of this number
unfoldable pub plan_text : ℕ → PlanWhy → List ℕ
plan_text line reason = codes "plan line " ++ decimal line ++ codes " " ++ plan_why_text reason

-- Why a plan and its parts make no image. That memory ran out is no reason, and what stands there
-- plays no part.
unfoldable pub make_text : MakeNo → List ℕ
make_text NoSegments = codes "make no segments"
make_text (OddLength segment) = codes "make odd length " ++ decimal segment
make_text (OddAddress segment) = codes "make odd address " ++ decimal segment
make_text (SpaceEnd segment) = codes "make space end " ++ decimal segment
make_text (Overlap a b) = codes "make overlap " ++ pair_text a b
make_text (TooManySegments n) = codes "make segments " ++ decimal n
make_text (TooLong n) = codes "make too long " ++ decimal n
make_text Memory = codes "make"

-- two bytes in hex digits
abbrev pub bytes_text : ℕ → ℕ → List ℕ
bytes_text a b = hex_number 2 a ++ hex_number 2 b

-- why bytes are no whole image
unfoldable pub bad_image_text : BadImage → List ℕ
bad_image_text (Magic byte) = codes "image magic" ++ hex_number 2 byte
bad_image_text (Segments n) = codes "image segments " ++ decimal n
bad_image_text (Chip id) = codes "image chip " ++ decimal id
bad_image_text (Flag byte) = codes "image flag" ++ hex_number 2 byte
bad_image_text (Length segment length) = codes "image length " ++ pair_text segment length
bad_image_text (Address segment load) =
    codes "image address " ++ decimal segment ++ hex_number 8 load
bad_image_text (TooLarge need limit) = codes "image too large " ++ pair_text need limit
bad_image_text (Short have need) = codes "image short " ++ pair_text have need
bad_image_text (Trailing have need) = codes "image trailing " ++ pair_text have need
bad_image_text (Checksum stored computed) = codes "image checksum" ++ bytes_text stored computed
bad_image_text Digest = codes "image digest"

-- where data of this load address go, as a word
abbrev pub kind_text : ℕ → List ℕ
kind_text load =
    if is_data load then codes "data" else (if is_code load then codes "code" else codes "memory")

-- the line of the segment of this number
unfoldable pub segment_line : ℕ → SegmentNote → List ℕ
segment_line number note =
    codes "segment " ++ decimal number ++ hex_number 8 note.load ++ codes " " ++ decimal note.length
    ++ codes " " ++ kind_text note.load ++ codes "\n"

-- the lines of segments, of which the first has this number
abbrev pub segment_lines : ℕ → List SegmentNote → List ℕ
segment_lines number [] = []
segment_lines number (note ∷ notes) = segment_line number note ++ segment_lines (number + 1) notes

-- the line that tells how many bytes an image has
unfoldable pub length_line : ℕ → List ℕ
length_line length = codes "length " ++ decimal length ++ codes "\n"

-- the line that tells whether a digest is appended
unfoldable pub digest_line : Bool → List ℕ
digest_line flagged = if flagged then codes "digest yes\n" else codes "digest no\n"

-- the version in a description
abbrev pub version_text : Option AppDesc → List ℕ
version_text None = codes "-"
version_text (Some desc) = shown_text 32 desc.version

-- the project's name in a description
abbrev pub project_text : Option AppDesc → List ℕ
project_text None = codes "-"
project_text (Some desc) = shown_text 32 desc.project

-- the lines of a description
unfoldable pub description_lines : Option AppDesc → List ℕ
description_lines desc =
    codes "version " ++ version_text desc ++ codes "\nproject " ++ project_text desc ++ codes "\n"

-- the lines of an image with these segments, so many bytes, a digest or none, and this description
unfoldable pub image_lines : List SegmentNote → ℕ → Bool → Option AppDesc → List ℕ
image_lines notes length flagged desc =
    segment_lines 0 notes ++ length_line length ++ digest_line flagged ++ description_lines desc
