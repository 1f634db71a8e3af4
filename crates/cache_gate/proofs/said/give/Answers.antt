use contract.BorrowLft.{⊑_meet, ⊑_static}
use Rattle.cache_gate.proofs.said.give.Goals as goal

-- the borrows live as long as what they speak of
pub give_said-requires : goal.give_said-requires
give_said-requires g c κs within =
    let a = within.0 in
    let b = within.1.0 in
    let d = within.1.1.0 in
    let e = within.1.1.1.0 in
    let f = within.1.1.1.1.0 in
    let h = within.1.1.1.1.1 in (
      search (a, b, d, e, ⊑_meet, ⊑_static) depth 9,
      (
        search (f, h, ⊑_meet, ⊑_static) depth 9,
        (
          search (⊑_static),
          (search (⊑_static), (c.requires.table, (c.requires.turn, c.requires.value))),
        ),
      ),
    )
