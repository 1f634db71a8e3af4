use Rattle.std.proofs.Common.{◌≡◌, ◌≢◌, ◌<◌, ◌++◌, ℕ, List, length, take, ◌∙◌, ap, refl, sym, arith}
use Rattle.std.proofs.lemmas.List.{length-take}
use Rattle.image_verify.specs.declared.reader.Reader.{Reader}
use Rattle.image_verify.proofs.HeadSteps.{fed_head, came_waits, came_whole}
use Rattle.image_verify.proofs.reader.Reader.in_head.Goals as goal

-- what is kept of 8 bytes and is not all of them
below_8 : (kept all : List ℕ) → kept ≡ take 8 all → length kept ≢ 8 → length kept < 8
below_8 kept all is not_all = grind (arith, ap length is, length-take 8 all, not_all)

-- a head that came whole is looked at
pub returns-then-len-eq8-clause-fed : goal.returns-then-len-eq8-clause-fed
returns-then-len-eq8-clause-fed c = λ limit bytes fed.
    let v = c.args.self.now in
    let kept : Reader = record v { seen = c.saw.new.self; buffer = c.keep.new.kept } in
    let came = fed_head v limit bytes _ c.saw.new.self kept fed c.requires.body c.requires.some_left c.requires.past c.requires.few
    (omega (arith, c.min-taken.ensures, c.len.ensures.value, length-take c.min-taken.result c.args.piece.now))
    (c.saw.ensures bytes fed.seen) refl c.keep.ensures in
    c.take_head.ensures limit _ (came_whole kept limit _ came (sym c.len-2.ensures.value ∙ c.if-len-eq8.true))

-- one that did not is waited for
pub returns-else-len-eq8-clause-fed : goal.returns-else-len-eq8-clause-fed
returns-else-len-eq8-clause-fed c = λ limit bytes fed.
    let v = c.args.self.now in
    let kept : Reader = record v { seen = c.saw.new.self; buffer = c.keep.new.kept } in
    let came = fed_head v limit bytes _ c.saw.new.self kept fed c.requires.body c.requires.some_left c.requires.past c.requires.few
    (omega (arith, c.min-taken.ensures, c.len.ensures.value, length-take c.min-taken.result c.args.piece.now))
    (c.saw.ensures bytes fed.seen) refl c.keep.ensures in
    came_waits kept limit _ came (below_8 _ (v.buffer.items ++ take c.min-taken.result c.args.piece.now)
    (c.keep.ensures (omega (arith, c.requires.few))) (λ all. c.if-len-eq8.false (c.len-2.ensures.value ∙ all)))
