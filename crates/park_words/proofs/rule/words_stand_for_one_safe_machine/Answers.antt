use Rattle.park_words.proofs.OneMachine.{one_safe_machine}
use Rattle.park_words.proofs.rule.words_stand_for_one_safe_machine.Goals as goal

pub returns : goal.returns
returns g c = let V = g.V.Records in one_safe_machine V.records V.runs V.stands
