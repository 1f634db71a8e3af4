use Rattle.std.proofs.Common.{sym, ◌∙◌, List, subst}
use Rattle.std.proofs.lemmas.Result.{err_from_is_err_and}
use Rattle.image_maker.specs.Image.{IsMade}
use Rattle.image_maker.specs.Parts.{files_of}
use Rattle.image_maker.specs.Placing.{joined}
use Rattle.image_maker.specs.Plan.{PlannedPart}
use Rattle.image_maker.proofs.WholeLemmas.{AreSmall, refused_is, image_is, made_is, same_fault, end_fits, lines_small}
use Rattle.image_maker.proofs.image.make.Goals as goal

-- the first fault
pub returns-in_err-size-clause-exact : goal.returns-in_err-size-clause-exact
returns-in_err-size-clause-exact c =
    let plan = c.args.plan.now in
    let files = files_of c.args.parts.now in
    let same = same_fault plan files _ _ c.has_digest.ensures.exact c.lines.ensures.exact in
    let p = err_from_is_err_and c.from_residual.result c.from_residual.ensures.1 in
    rw (p.1, p.2) (refused_is plan files c.in_err-size.field-0.0 (same ∙ c.in_err-size.ensures.some))

-- an image with no fault is short
pub build-requires-clause-fits : goal.build-requires-clause-fits
build-requires-clause-fits c =
    end_fits c.has_digest.result _ c.in_ok-size.size.end c.in_ok-size.ensures.none c.in_ok-size.ensures.size.end

-- its bytes are those that are stated
pub returns-clause-exact : goal.returns-clause-exact
returns-clause-exact c =
    let plan = c.args.plan.now in
    let files = files_of c.args.parts.now in
    let same = same_fault plan files _ _ c.has_digest.ensures.exact c.lines.ensures.exact in
    image_is plan files _ (same ∙ c.in_ok-size.ensures.none) c.in_ok-build.ensures.exact

-- and they are a whole image
pub returns-clause-whole : goal.returns-clause-whole
returns-clause-whole c =
    let plan = c.args.plan.now in
    let files = files_of c.args.parts.now in
    let same = same_fault plan files _ _ c.has_digest.ensures.exact c.lines.ensures.exact in
    let small = subst (λ (qs : List PlannedPart). AreSmall (joined qs files)) c.lines.ensures.exact
    (lines_small c.lines.result.now c.args.parts.now) in
    subst (IsMade plan files) (sym c.in_ok-build.ensures.exact)
    (made_is plan files small (same ∙ c.in_ok-size.ensures.none))
