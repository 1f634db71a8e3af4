use Rattle.update_steps.proofs.ApartLemmas.{flash_apart, open_stands, rows_apart}
use Rattle.update_steps.proofs.laws.open_partitions_are_apart.Goals as goal

-- by the rules on rows that don't meet
pub returns : goal.returns
returns c = record { rows = rows_apart; flash = flash_apart; stands = open_stands }
