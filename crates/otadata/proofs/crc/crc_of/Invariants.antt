-- The steps that are left leave of the register what all steps leave of the sequence.
use Rattle.std.proofs.Common.{◌-◌}
use Rattle.otadata.proofs.CrcLemmas.{IsOnTheWay}
use Rattle.otadata.proofs.crc.crc_of.Given as goal

abbrev pub invariant-loop : goal.invariant-loop
invariant-loop l = IsOnTheWay (32 - l.counter) l.seq l.register
