use Rattle.std.proofs.Common.{◌≡◌, sym, ap, subst, Option, None}
use Rattle.bus_hub.specs.declared.did.Running.{Running}
use Rattle.bus_hub.specs.Room.{Kept}
use Rattle.bus_hub.specs.Hub.{core_of}
use Rattle.bus_hub.specs.Legal.{LegalTo, IsLegal}
use Rattle.bus_hub.proofs.bus.Bus.into_parts.Goals as goal

-- no step runs, so none is open
pub returns-clause-legal : goal.returns-clause-legal
returns-clause-legal g c = λ b left right s.
    let all = c.legal.ensures.journal b left right s in
    let closed : LegalTo None c.args.self.journal.entries None =
    subst (λ (o : Option Running). LegalTo None c.args.self.journal.entries (core_of o))
    c.requires.idle all in
    let journal_is : c.split.result.1 ≡ c.args.self.journal = ap (λ p. p.1) c.split.ensures.exact in
    subst (λ (j : Kept). IsLegal j.entries) (sym journal_is) closed
