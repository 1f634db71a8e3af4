use Rattle.std.proofs.Common.{rules, inr}
use Rattle.irq_lines.proofs.Kept.{may_serve}
use Rattle.irq_lines.proofs.closing.serve_last.Goals as goal

pub fetch_and-found-requires : goal.fetch_and-found-requires
fetch_and-found-requires c = (
  search rules,
  search rules,
  may_serve _ _ c.from.result c.from-2.result c.args.core c.args.mask c.args.seat.now.me
      (inr c.requires.both) c.requires.run c.from.ensures c.requires.core c.from-2.ensures
      (search rules),
)
