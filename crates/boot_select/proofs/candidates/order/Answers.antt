use Rattle.boot_select.proofs.StartLemmas.{tried_have_rows}
use Rattle.boot_select.proofs.candidates.order.Goals as goal

-- the candidates from the application that is named have partitions
pub returns-clause-placed : goal.returns-clause-placed
returns-clause-placed c =
    tried_have_rows c.args.layout.now c.named.result c.order_from.result.items c.named.ensures.start
    c.order_from.ensures.exact
