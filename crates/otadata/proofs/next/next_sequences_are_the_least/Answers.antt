use Rattle.otadata.proofs.NextLemmas.{next-follows, next-least}
use Rattle.otadata.proofs.next.next_sequences_are_the_least.Goals as goal

pub returns : goal.returns
returns c = record { follows = next-follows; least = next-least }
