use Rattle.cache_gate.specs.Own.{base_of}
use Rattle.cache_gate.proofs.gates.open.Given as goal

abbrev pub ghost-new : goal.ghost-new
ghost-new g a =
    let n = g.D.Nor in base_of n.bytes n.off n.steps n.faults n.setting a.value
