-- What the end of the bytes tells of a whole image.
use Rattle.std.proofs.Common.{◌≡◌, ℕ, List, [], ◌∷◌, ◌++◌, ◌≤◌, length, refl, sym, ap, ◌∙◌, arith}
use Rattle.std.specs.Prelude.{Result, Ok, Err, IsOk, IfOk, IfErr, Some, ◌↔◌}
use Rattle.std.proofs.lemmas.List.{append_assoc, length-append}
use Rattle.std.proofs.lemmas.Option.{none-some}
use mathlib.Core.Bool.{true≢false}
use Rattle.image_layout.specs.Header.{header_of}
use Rattle.image_layout.specs.Segment.{text}
use Rattle.image_layout.specs.Whole.{Parts, IsImage, data_end, summed, Whole}
use Rattle.image_verify.specs.declared.bad.BadImage.{BadImage}
use Rattle.image_verify.specs.declared.info.ImageInfo.{ImageInfo}
use Rattle.image_verify.specs.declared.reader.Reader.{Reader}
use Rattle.image_verify.specs.Places.{flag_of, need_of}
use Rattle.image_verify.specs.Bad.{bad}
use Rattle.image_verify.specs.Fed.{IsFed, IsTold, notes_in}
use Rattle.image_verify.specs.Places.{notes_from}
use Rattle.image_verify.specs.Walk.{plan}
use Rattle.image_verify.specs.Info.{IsInfo, segments_of}
use Rattle.image_verify.proofs.WholeFacts.{flag_is, plan_image, summed_long, digest_long, whole_shows_none, whole_from_none}

-- it is Ok exactly where the bytes are a whole image
pub ok_whole : (v : Reader) (result : Result ImageInfo BadImage) (limit : ℕ) (bytes : List ℕ)
    → IfOk result (λ info. (limit : ℕ) (bytes : List ℕ) → IsFed v limit bytes → IsTold limit bytes info)
    → IfErr result (λ why. (limit : ℕ) (bytes : List ℕ) → IsFed v limit bytes → bad limit bytes ≡ Some why)
    → IsFed v limit bytes → (IsOk result ↔ Whole bytes limit)
ok_whole v (Ok info) limit bytes told refused fed = record {
  0 = λ ok. whole_from_none limit bytes (told limit bytes fed).none;
  1 = λ whole. refl;
}
ok_whole v (Err why) limit bytes told refused fed = record {
  0 = λ ok. absurd (true≢false (sym ok));
  1 = λ whole. absurd (none-some why (sym (whole_shows_none limit bytes whole) ∙ refused limit bytes fed));
}

-- the segments that a reading of an image comes over are its own, within any limit that it fits
image_notes : (p : Parts) → IsImage p → (bytes : List ℕ) → bytes ≡ summed p ++ p.digest → (limit : ℕ)
    → length bytes ≤ limit → notes_in (plan limit bytes) ≡ notes_from 24 p.segments
image_notes p image bytes is limit fits =
    let rest = p.padding ++ ((p.checksum ∷ []) ++ p.digest) in
    let apart : bytes ≡ p.header ++ (text p.segments ++ rest) = is ∙ simp append_assoc in
    let flag = flag_is p image bytes rest apart in
    let small : need_of (data_end p) 0 (flag_of bytes) ≤ limit =
    omega (arith, ap length is, length-append (summed p) p.digest, summed_long p image, digest_long p image, flag, fits) in
    ap notes_in (plan_image p image bytes rest apart limit small)

-- what is told of it is so
pub told_info : (limit : ℕ) (bytes : List ℕ) (info : ImageInfo) → IsTold limit bytes info → IsInfo bytes info
unfolding header_of segments_of
told_info limit bytes info told =
    let whole = whole_from_none limit bytes told.none in
    record {
      long = told.long;
      entry = told.entry;
      flagged = told.flagged;
      segments = λ p image is. told.segments ∙ image_notes p image bytes is limit whole.fits;
      heads = told.segments ∙ image_notes whole.parts whole.image bytes whole.text limit whole.fits
          ∙ sym (image_notes whole.parts whole.image bytes whole.text (length bytes) (omega arith));
      desc = told.desc;
    }

-- of an answer that is Ok
pub ok_info : (v : Reader) (result : Result ImageInfo BadImage)
    → IfOk result (λ info. (limit : ℕ) (bytes : List ℕ) → IsFed v limit bytes → IsTold limit bytes info)
    → IfOk result (λ info. (limit : ℕ) (bytes : List ℕ) → IsFed v limit bytes → IsInfo bytes info)
ok_info v (Ok info) told = λ limit bytes fed. told_info limit bytes info (told limit bytes fed)
ok_info v (Err why) told = told
