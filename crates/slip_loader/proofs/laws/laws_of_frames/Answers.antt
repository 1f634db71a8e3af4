use Rattle.slip_loader.proofs.PartLemmas.{requests_by_parts}
use Rattle.slip_loader.proofs.StreamLemmas.{requests_append}
use Rattle.slip_loader.proofs.laws.laws_of_frames.Goals as goal

pub returns : goal.returns
returns c = record {
  whole = requests_by_parts;
  two = requests_append;
}
