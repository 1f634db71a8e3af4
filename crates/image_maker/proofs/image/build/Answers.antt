use Rattle.std.proofs.Common.{ap, ◌∙◌, ◌++◌, List, ℕ, length}
use Rattle.image_layout.specs.Header.{header_bytes}
use Rattle.image_layout.specs.Whole.{xor_all}
use Rattle.image_maker.specs.Parts.{files_of}
use Rattle.image_maker.specs.Placing.{joined, text_from, data_from}
use Rattle.image_maker.specs.Plan.{PlannedPart}
use Rattle.image_maker.proofs.WholeLemmas.{built}
use Rattle.image_maker.proofs.image.build.Goals as goal

-- each piece was appended to those before it
pub returns : goal.returns
returns c =
    let plan = c.args.plan.now in
    let files = files_of c.args.files.now in
    let ps = joined plan.parts files in
    let first = c.extend_from_slice.new.self.items in
    let first_is = c.in_ok-extend_from_slice.ensures.items
    ∙ ap (λ (xs : List ℕ). xs ++ c.put.new.out) c.in_ok-image.ensures.items ∙ c.put.ensures.bytes
    ∙ ap header_bytes c.header.ensures.exact in
    let second_is = c.in_ok-sum.ensures.bytes
    ∙ ap (λ (qs : List PlannedPart). first ++ text_from (joined qs files) (length first)) c.lines.ensures.exact in
    let sum_is = c.in_ok-sum.ensures.sum
    ∙ ap (λ (qs : List PlannedPart). xor_all 0xEF (data_from (joined qs files) (length first))) c.lines.ensures.exact in
    record {
      exact = built plan ps c.args.size.count c.in_ok-sum.sum c.has_digest.result first c.append_parts.new.image.items
          c.append_footer.new.image.items _ c.requires.size.count first_is second_is sum_is
          c.in_ok-append_footer.ensures.bytes c.has_digest.ensures.exact c.in_ok-append_digest.ensures.bytes;
    }
