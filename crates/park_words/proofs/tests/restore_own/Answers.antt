use Rattle.std.proofs.Common.{rules, ◌∙◌, ◌-◌, ap, sym, subst, inr, slice_index_or}
use Rattle.std.specs.Prelude.{IsSome}
use Rattle.core_state.specs.Registers.{starting, restored}
use Rattle.park_words.proofs.tests.restore_own.Goals as goal

pub give_event-requires-clause-value : goal.give_event-requires-clause-value
give_event-requires-clause-value c =
    let k = c.in-Ok.ensures.value in let took = c.in-Ok.ensures.ok.1 in let put =
    c.put_back.ensures in let core = c.core.ensures.exact in
    let was = c.in-Ok.tally.registers in let is = c.put_back.new.self.registers in record {
      other_is = ap (λ n. slice_index_or is (1 - n) starting) (sym core)
          ∙ (put.other ∙ (ap (λ n. slice_index_or was (1 - n) starting) core ∙ k.other_is));
      does = (
        inr (ap (λ z. z.view.phase) took ∙ c.requires.owning),
        subst (λ z. IsSome z.view.registers.saved) (sym took) c.requires.saved,
        ap (λ n. slice_index_or is n starting) (sym core)
            ∙ (put.own ∙ ap restored (ap (λ n. slice_index_or was n starting) core ∙ k.own)),
        put.rest.0 ∙ k.running,
      );
      stands_by = search rules;
    }
