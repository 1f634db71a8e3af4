use Rattle.duo_run.proofs.DuoLemmas.{install_begins, install_row, installed_ok, installed_told}
use Rattle.duo_run.proofs.duo.Duo.session.Goals as goal

-- the application that runs has a partition
pub place-row-requires : goal.place-row-requires
place-row-requires g c = record {
  found = install_row c.args.self.now.table.now c.args.self.now.script.now c.args.self.now.driver
      c.layout_of-layout.result c.args.aim.now c.args.image.now c.args.dev c.requires.layout
      c.layout_of-layout.ensures;
}

-- a leg may begin
pub leg-requires-clause-begins : goal.leg-requires-clause-begins
leg-requires-clause-begins g c κs within =
    rw c.beside.ensures.table
    (install_begins c.args.self.now.table.now c.args.self.now.script.now c.args.self.now.driver
    c.layout_of-layout.result c.args.aim.now c.args.image.now c.args.dev c.requires.layout
    c.layout_of-layout.ensures c.place-row.result c.place-row.ensures.exact)

-- it is a session
pub returns : goal.returns
returns g c = record {
  leg = installed_ok c.args.self.now.table.now c.args.self.now.script.now c.args.self.now.driver
      c.layout_of-layout.result c.args.aim.now c.args.image.now c.args.dev c.requires.layout
      c.layout_of-layout.ensures c.place-row.result c.beside.result.table.now
      c.beside.result.script.now c.leg.result c.place-row.ensures.exact c.beside.ensures.table
      c.beside.ensures.script c.leg.ensures.leg;
  told = installed_told (λ p. g.P.Pace.told p) c.args.self.now.table.now
      c.layout_of-layout.result c.args.aim.now c.args.image.now c.layout_of-layout.ensures
      c.beside.result.script.now c.args.self.now.script.now c.beside.result.pace.now
      c.args.self.now.pace.now c.leg.result c.beside.ensures.script c.beside.ensures.pace
      c.leg.ensures.told;
}
