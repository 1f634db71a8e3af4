use Rattle.std.proofs.Common.{ap, refl}
use Rattle.bus_hub.specs.Hub.{Hub}
use Rattle.cache_gate.proofs.Taken.{keeps_cores, fits_same}
use Rattle.cache_gate.proofs.turns.map.Goals as goal

pub give-requires-clause-value : goal.give-requires-clause-value
give-requires-clause-value g c =
    keeps_cores _ c.args.seat.now c.take-bus.new.seat c.take-bus.result c.take-bus.ensures.taken
    c.take-bus.ensures.value c.core.result c.core.ensures.exact c.map-answer.new.self
    c.core.ensures.within c.known.ensures.fits _
    (ap (λ (h : Hub _ _). h.left) c.map-answer.ensures.exact) (ap (λ (h : Hub _ _). h.right) c.map-answer.ensures.exact)
    (ap (λ (h : Hub _ _). h.running) c.map-answer.ensures.exact) c.map-answer.ensures.stands
    (fits_same _ _ _ _ c.known.ensures.fits refl refl)
