use Rattle.std.proofs.Common.{ap}
use Rattle.nor_device.specs.Flash.{after_steps}
use Rattle.slip_loader.proofs.StreamLemmas.{answers_of_pieces, state_of_pieces, steps_of_pieces}
use Rattle.slip_loader.proofs.laws.streams_are_the_same_in_any_pieces.Goals as goal

pub returns : goal.returns
returns c = record {
  state = state_of_pieces;
  steps = steps_of_pieces;
  answers = answers_of_pieces;
  flash = λ state flash pieces. ap (after_steps flash) (steps_of_pieces state pieces);
}
