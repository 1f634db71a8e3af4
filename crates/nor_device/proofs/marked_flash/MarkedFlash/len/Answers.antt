use Rattle.std.proofs.Common.{arith}
use Rattle.nor_device.proofs.ReadLemmas.{length-read}
use Rattle.nor_device.proofs.marked_flash.MarkedFlash.len.Goals as goal

-- as many bytes are read as are stored
pub returns-clause-exact : goal.returns-clause-exact
returns-clause-exact c = grind (arith, length-read c.self.inside _ c.self.view_is)
