use Rattle.nvs_keys.proofs.SlotLemmas.{given_copied, given_record, given_shut, length_record, record_small}
use Rattle.nvs_keys.proofs.laws.records_give_their_change.Goals as goal

pub returns : goal.returns
returns c = record {
  size = length_record;
  bytes = record_small;
  given = given_record;
  shut = given_shut;
  copy = given_copied;
}
