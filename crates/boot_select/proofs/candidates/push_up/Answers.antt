use Rattle.std.proofs.Common.{◌≡◌, ◌∙◌, ◌-◌, sym, arith}
use Rattle.std.proofs.lemmas.List.{append-nil}
use Rattle.boot_select.specs.Candidates.{up}
use Rattle.boot_select.proofs.CandidateLemmas.{up-step, moved}
use Rattle.boot_select.proofs.candidates.push_up.Goals as goal

-- one more slot
pub loop-slot-preserved : goal.loop-slot-preserved
loop-slot-preserved c =
    let step = up-step c.loop-slot.slot c.args.end (omega arith) in
    let whole = rw step at c.loop-slot.invariant.items in
    record {
      items = moved c.loop-slot.apps.items c.push.new.self.items _ _ _ c.push.ensures.items whole;
      count = omega arith;
    }

-- no slot is left
pub returns-clause-items : goal.returns-clause-items
unfolding up
returns-clause-items c =
    let none : c.args.end - c.loop-slot.slot ≡ 0 = omega arith in
    let whole = rw none at c.loop-slot.invariant.items in
    sym (append-nil c.loop-slot.apps.items) ∙ whole
