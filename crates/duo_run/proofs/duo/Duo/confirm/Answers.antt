use Rattle.duo_run.proofs.DuoLemmas.{affirm_begins, affirm_row, affirmed_ok, told_as}
use Rattle.duo_run.proofs.duo.Duo.confirm.Goals as goal

-- the application that runs has a partition
pub place-row-requires : goal.place-row-requires
place-row-requires g c = record {
  found = affirm_row c.args.self.now.table.now c.args.self.now.script.now c.args.self.now.driver
      c.layout_of-layout.result c.args.at.now c.args.write.now c.args.dev c.requires.layout
      c.layout_of-layout.ensures;
}

-- a leg may begin
pub leg-requires-clause-begins : goal.leg-requires-clause-begins
leg-requires-clause-begins g c κs within =
    rw c.beside.ensures.table
    (affirm_begins c.args.self.now.table.now c.args.self.now.script.now c.args.self.now.driver
    c.layout_of-layout.result c.args.at.now c.args.write.now c.args.dev c.requires.layout
    c.layout_of-layout.ensures c.place-row.result c.place-row.ensures.exact)

-- it is a confirmation
pub returns : goal.returns
returns g c = record {
  leg = affirmed_ok c.args.self.now.table.now c.args.self.now.script.now c.args.self.now.driver
      c.layout_of-layout.result c.args.at.now c.args.write.now c.args.dev c.requires.layout
      c.layout_of-layout.ensures c.place-row.result c.beside.result.table.now
      c.beside.result.script.now c.leg.result c.place-row.ensures.exact c.beside.ensures.table
      c.beside.ensures.script c.leg.ensures.leg;
  told = told_as (λ p. g.P.Pace.told p) 2 c.beside.result.script.now
      c.args.self.now.script.now c.beside.result.pace.now c.args.self.now.pace.now c.leg.result
      c.beside.ensures.script c.beside.ensures.pace c.leg.ensures.told;
}
