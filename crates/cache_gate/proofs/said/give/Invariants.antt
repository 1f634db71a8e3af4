use Rattle.cache_gate.specs.Said.{work_by}
use Rattle.cache_gate.proofs.said.give.Given as goal

abbrev pub ghost-give_said : goal.ghost-give_said
ghost-give_said g a = work_by g.D.Nor.bytes a._said.now a.value
