use Rattle.bus_hub.proofs.Fixing.{range_there, range_fixed}
use Rattle.bus_hub.proofs.laws.a_range_in_fixed_pages_is_fixed.Goals as goal

pub returns-clause-there : goal.returns-clause-there
returns-clause-there c = range_there

pub returns-clause-kept : goal.returns-clause-kept
returns-clause-kept c = range_fixed
