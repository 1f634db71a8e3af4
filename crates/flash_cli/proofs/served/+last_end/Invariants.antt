use Rattle.std.proofs.Common.{length}
use Rattle.flash_cli.proofs.served.+last_end.Given as goal

-- each call has a leg less to look at
abbrev pub decreases-last_end : goal.decreases-last_end
decreases-last_end l = length l.legs.now
