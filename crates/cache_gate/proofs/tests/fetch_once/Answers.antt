use Rattle.cache_gate.proofs.Rooms.{fetch_spends, spends_before}
use Rattle.cache_gate.proofs.tests.fetch_once.Goals as goal

-- the fetch alone adds an entry
pub returns : goal.returns
returns g c =
    spends_before c.args.core.now c.fetch.new.self c.serve_gate.new.self 1 4
    (fetch_spends c.args.core.now c.fetch.new.self c.args.k _ 4 c.fetch.result
    c.fetch.ensures.adds) c.serve_gate.ensures.keeps
