use Rattle.std.proofs.Common.{[], ◌∷◌, subst}
use Rattle.bus_hub.specs.declared.did.Did.TheVariants.{Noted}
use Rattle.cache_gate.specs.Own.{held_of, own_of, Adds, HasShown}
use Rattle.cache_gate.proofs.Walks.{works_added, shows_noted}
use Rattle.cache_gate.proofs.States.{runs_more, noted_as}
use Rattle.cache_gate.proofs.cores.Core.note.Goals as goal

pub invariant_of-self : goal.invariant_of-self
invariant_of-self g c =
    runs_more c.self.inside.words.now (held_of c.self.inside.seat) (held_of c.note.new.seat) _
    _
    c.self.invariant c.note.ensures.exact c.self.invariant.unsaved (works_added (Noted c.args.k c.self.inside.seat.view.registers.regs c.args.act ∷ []) _ _ _ _
    c.note.ensures.works)

-- as its seat knows it
pub returns-clause-adds : goal.returns-clause-adds
returns-clause-adds g c =
    subst (λ (o : _). Adds (Noted c.args.k o.regs c.args.act ∷ []) o
    (own_of (held_of c.note.new.seat))) c.self.view_is
    (noted_as (held_of c.self.inside.seat) (held_of c.note.new.seat) c.args.k c.args.act
    c.self.invariant.unsaved c.note.ensures.exact c.note.ensures.works)

pub returns-clause-shows : goal.returns-clause-shows
returns-clause-shows g c =
    subst (λ (o : _). HasShown [] o (own_of (held_of c.note.new.seat))) c.self.view_is
    (shows_noted c.args.k c.self.inside.seat.view.registers.regs c.args.act _ _ _ _
    c.requires.plain c.note.ensures.works)
