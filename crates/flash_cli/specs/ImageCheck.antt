-- What the command `image-check FILE` comes to.
use Rattle.std.specs.Prelude.{ℕ, ◌==◌, List, length, Option, Some, None, Result, Ok, Err}
use Rattle.image_layout.specs.Header.{header_of}
use Rattle.image_layout.specs.Description.{description_of}
use Rattle.image_verify.specs.declared.bad.BadImage.{BadImage}
use Rattle.image_verify.specs.Bad.{bad}
use Rattle.image_verify.specs.Info.{segments_of}
use Rattle.flash_text.specs.declared.refusal.Refusal.{Refusal}
use Rattle.flash_text.specs.declared.refusal.Refusal.TheVariants.{Image}
use Rattle.flash_text.specs.ImageText.{image_lines}
use Rattle.flash_cli.specs.Answer.{Answer, text_only}

-- the lines of a whole image
unfoldable pub lines_of_image : List ℕ → List ℕ
lines_of_image image =
    image_lines (segments_of image) (length image) ((header_of image).flag == 1)
    (description_of image)

-- the answer of the command on a file with this fault, or without one
abbrev pub answer_of_check : Option BadImage → List ℕ → Result Answer Refusal
answer_of_check None file = Ok (text_only (lines_of_image file))
answer_of_check (Some why) file = Err (Image why)

-- what the command comes to on a file, as an image of at most 16 MiB
abbrev pub image_check_answer : List ℕ → Result Answer Refusal
image_check_answer file = answer_of_check (bad 16777216 file) file
