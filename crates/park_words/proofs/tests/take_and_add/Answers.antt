use Rattle.std.proofs.Common.{◌∙◌, ◌-◌, [], ◌∷◌, None, ap, slice_index_or}
use Rattle.std.specs.Prelude.{⊤}
use Rattle.core_state.specs.Registers.{starting}
use Rattle.park_words.proofs.Giving.{gives}
use Rattle.park_words.proofs.tests.take_and_add.Goals as goal

-- the registers and the running step are as they were taken, and the share grows by what was added
pub give_added-requires-clause-value : goal.give_added-requires-clause-value
give_added-requires-clause-value g c =
    let v = c.take_turn.new.seat.view in let known = c.in-Ok.ensures.value in
    let added = c.add_one-amount.ensures in let amount = c.add_one-amount.result in
    gives _ _ _ (λ b c items. ⊤) c.in-Ok.tally c.add_one-amount.new.self v
    (record { event = None; items = amount ∷ [] }) c.core.result c.core.ensures.exact known
    (ap (λ r. slice_index_or r (1 - v.core) starting) added.rest.0) (
      ap (λ r. slice_index_or r v.core starting) added.rest.0 ∙ known.own,
      added.rest.1 ∙ known.running,
    )
    added.goes_on (λ b e. tt)
