-- What a verified image is told to be.
use Rattle.std.proofs.Common.{◌≡◌, ℕ, List, [], ◌++◌, true, false, refl, sym, ap, ◌∙◌, arith}
use Rattle.std.specs.Prelude.{Bool, ◌==◌, ◌↔◌, IsTrue, None, Ok}
use Rattle.std.proofs.lemmas.Bool.Decides.{nat_tests}
use Rattle.image_layout.specs.Header.{header_of}
use Rattle.image_verify.specs.declared.info.ImageInfo.{ImageInfo}
use Rattle.image_verify.specs.Bad.{bad}
use Rattle.image_verify.specs.Info.{IsInfo}
use Rattle.flash_text.specs.ImageText.{image_lines}
use Rattle.flash_cli.specs.Answer.{Answer, text_only}
use Rattle.flash_cli.specs.ImageCheck.{image_check_answer, lines_of_image}

-- a truth that is that of an equation is the test of it
test_of : (truth : Bool) (n m : ℕ) → (IsTrue truth ↔ (n ≡ m)) → truth ≡ (n == m)
test_of true n m is = let same : n ≡ m = is.0 refl in grind (arith, nat_tests, same)
test_of false n m is = let other : n ≡ m → ⊥ = λ same. let no : false ≡ true = is.1 same in absurd (cc) in grind (arith, nat_tests, other)

-- the lines of what is told are those of the image
pub lines_told : (file : List ℕ) (info : ImageInfo) → IsInfo file info
    → image_lines info.segments.items info.length info.flagged info.desc ≡ lines_of_image file
unfolding lines_of_image
lines_told file info is =
    let flagged = test_of info.flagged (header_of file).flag 1 is.flagged in
    λ i. image_lines (is.heads i) (is.long i) (flagged i) (is.desc i)

-- the answer with these lines is that of the file
pub check_is : (file : List ℕ) (info : ImageInfo) (start text : List ℕ) (answer : Answer)
    → bad 16777216 file ≡ None → IsInfo file info → start ≡ []
    → text ≡ start ++ image_lines info.segments.items info.length info.flagged info.desc
    → answer ≡ text_only text → image_check_answer file ≡ Ok answer
check_is file info start text answer none is empty text_is answer_is =
    let told : text ≡ lines_of_image file =
    text_is ∙ ap (λ (s : List ℕ). s ++ image_lines info.segments.items info.length info.flagged info.desc) empty
    ∙ lines_told file info is in
    rw none (λ i. Ok ((sym (answer_is ∙ ap text_only told)) i))
