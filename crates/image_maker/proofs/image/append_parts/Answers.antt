use Rattle.std.proofs.Common.{◌+◌, ◌++◌, ◌∷◌, [], List, ℕ, ap, sym, ◌∙◌, length, arith, get_or, drop}
use Rattle.std.proofs.lemmas.List.{append-nil, length-append}
use Rattle.image_layout.specs.Whole.{xor_all}
use Rattle.image_maker.specs.Placing.{Part, data_from, text_from}
use Rattle.image_maker.specs.Parts.{all_parts}
use Rattle.image_maker.proofs.JoinedLemmas.{part_at, none_left}
use Rattle.image_maker.proofs.PlacingLemmas.{image_step, sum_step, part_within}
use Rattle.image_maker.proofs.image.append_parts.Goals as goal

-- a part is no longer than the image
pub append_part-requires : goal.append_part-requires
append_part-requires c =
    let file = c.index-files-i.result in
    let here = part_at c.loop-i.i c.args.lines.now c.args.files.now c.index-lines-i.result file c.requires.each
    c.loop-i-test.true c.index-files-i.is in
    let image = c.loop-i.image.items in
    let inside = part_within (record { load = (get_or c.args.lines.now c.loop-i.i c.index-lines-i.result).load; content = file.items })
    (drop (c.loop-i.i + 1) (all_parts c.args.lines.now c.args.files.now)) (length image) in
    let left = ap (λ ps. length (text_from ps (length image))) here in
    let all = ap length c.loop-i.invariant.bytes in
    let js = all_parts c.args.lines.now c.args.files.now in
    let now = length-append image (text_from (drop c.loop-i.i js) (length image)) in
    let whole = length-append c.args.image.now.items (text_from js (length c.args.image.now.items)) in
    omega (arith, inside, left, all, now, whole, c.requires.short, ap length c.as_slice-file.ensures.value)

-- a part more
pub loop-i-preserved : goal.loop-i-preserved
loop-i-preserved c =
    let file = c.index-files-i.result in
    let here = part_at c.loop-i.i c.args.lines.now c.args.files.now c.index-lines-i.result file c.requires.each
    c.loop-i-test.true c.index-files-i.is in
    let image = c.loop-i.image.items in
    let load = (get_or c.args.lines.now c.loop-i.i c.index-lines-i.result).load in
    let value = c.as_slice-file.ensures.value in
    let one : List ℕ → Part = λ xs. record { load = load; content = xs } in
    let grown = c.in_ok-append_part.ensures.bytes
    ∙ ap (λ (xs : List ℕ). image ++ text_from (one xs ∷ []) (length image)) value in
    record {
      bytes = image_step image _ _ _ _ here grown _ c.loop-i.invariant.bytes;
      sum = sum_step image _ _ _ _ here grown c.loop-i.sum _ _
          (c.xor_bytes-sum.ensures ∙ ap (xor_all c.loop-i.sum) value) c.loop-i.invariant.sum;
      byte = omega arith;
    }

-- no part is left
pub returns : goal.returns
returns c =
    let none = none_left c.loop-i.i c.args.lines.now c.args.files.now c.requires.each c.loop-i-test.false in
    let image = c.loop-i.image.items in
    record {
      bytes = sym (append-nil image) ∙ sym (ap (λ ps. image ++ text_from ps (length image)) none) ∙ c.loop-i.invariant.bytes;
      sum = sym (ap (λ ps. xor_all c.loop-i.sum (data_from ps (length image))) none) ∙ c.loop-i.invariant.sum;
    }
