use Rattle.std.proofs.Common.{◌<◌, [], ap, length, ◌∙◌, ◌≡◌, get_or, arith}
use Rattle.image_maker.specs.Plan.{Planned, part_names, parts_of}
use Rattle.image_maker.proofs.JoinedLemmas.{length-parts, name_at}
use Rattle.image_maker.proofs.plan.Plan.part_name.Goals as goal

-- the name of the line
pub returns : goal.returns
returns c =
    let lines = c.self.inside.lines.items in
    let same : parts_of lines ≡ c.args.self.now.parts = ap (λ (p : Planned). p.parts) c.self.view_is in
    let below : c.args.i < length lines = omega (arith, length-parts lines, ap length same, c.requires) in
    record {
      exact = name_at c.args.i lines c.index.result.now _ below c.index.ensures c.as_str.ensures.value
          ∙ ap (λ (p : Planned). get_or (part_names p) c.args.i []) c.self.view_is;
    }
