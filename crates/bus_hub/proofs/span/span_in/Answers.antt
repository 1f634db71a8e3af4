use Rattle.std.proofs.Common.{◌∙◌, sym}
use Rattle.bus_hub.proofs.Spans.{front_beyond, one_page, then_beyond, two_pages}
use Rattle.bus_hub.proofs.span.span_in.Goals as goal

-- the first page reaches behind the flash's end
pub returns-then-from-front-clause-none : goal.returns-then-from-front-clause-none
returns-then-from-front-clause-none c = λ none.
    front_beyond c.args.pages.now c.args.size c.args.at c.args.len c.in_ok-from.from
    c.min-front.result c.requires.most c.requires.some c.min-front.ensures
    (sym c.translate.ensures.exact ∙ c.in_ok-from.was) c.if-from-front.true

-- all bytes lie in the first page
pub returns-then-front-len-clause-some : goal.returns-then-front-len-clause-some
returns-then-front-len-clause-some c =
    one_page c.args.pages.now c.args.size c.args.at c.args.len c.in_ok-from.from
    c.min-front.result c.requires.most c.requires.some c.min-front.ensures
    (sym c.translate.ensures.exact ∙ c.in_ok-from.was) c.if-from-front.false
    c.if-front-len.true

-- the second page reaches behind the flash's end
pub returns-then-then-len-clause-none : goal.returns-then-then-len-clause-none
returns-then-then-len-clause-none c = λ none.
    then_beyond c.args.pages.now c.args.size c.args.at c.args.len c.in_ok-from.from
    c.min-front.result c.requires.most c.requires.some c.min-front.ensures
    (sym c.translate.ensures.exact ∙ c.in_ok-from.was) c.in_ok-then.then c.if-front-len.false
    (sym c.translate-2.ensures.exact ∙ c.in_ok-then.was) c.if-then-len.true

-- the bytes lie in two pages
pub returns-clause-some : goal.returns-clause-some
returns-clause-some c =
    two_pages c.args.pages.now c.args.size c.args.at c.args.len c.in_ok-from.from
    c.min-front.result c.requires.most c.requires.some c.min-front.ensures
    (sym c.translate.ensures.exact ∙ c.in_ok-from.was) c.in_ok-then.then c.if-front-len.false
    (sym c.translate-2.ensures.exact ∙ c.in_ok-then.was) c.if-from-front.false
    c.if-then-len.false
