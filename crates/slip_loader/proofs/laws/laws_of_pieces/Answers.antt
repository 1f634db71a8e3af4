use Rattle.slip_loader.proofs.StreamLemmas.{load_answers_append, load_steps_append, state_append}
use Rattle.slip_loader.proofs.laws.laws_of_pieces.Goals as goal

pub returns : goal.returns
returns c = record {
  state = state_append;
  steps = load_steps_append;
  answers = load_answers_append;
}
