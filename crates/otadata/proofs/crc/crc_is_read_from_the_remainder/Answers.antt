-- The CRC is read from the one remainder.
use Rattle.otadata.proofs.CrcLemmas.{crc-from_remainder, crc-lt, divided-remainder}
use Rattle.otadata.proofs.crc.crc_is_read_from_the_remainder.Goals as goal

pub returns-clause-exists : goal.returns-clause-exists
returns-clause-exists c = divided-remainder

pub returns-clause-crc : goal.returns-clause-crc
returns-clause-crc c = crc-from_remainder

pub returns-clause-fits : goal.returns-clause-fits
returns-clause-fits c = crc-lt
