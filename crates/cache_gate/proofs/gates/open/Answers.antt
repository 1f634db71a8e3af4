use contract.BorrowLft.{⊑_meet, ⊑_static}
use Rattle.std.proofs.Common.{ap}
use Rattle.bus_hub.specs.Hub.{core_of}
use Rattle.cache_gate.proofs.gates.open.Goals as goal

-- the borrows live as long as what they speak of
pub new-requires : goal.new-requires
new-requires g c κs within =
    let a = within.0 in
    let b = within.1.0 in
    let d = within.1.1.0 in
    let e = within.1.1.1.0 in
    let f = within.1.1.1.1.0 in
    let h = within.1.1.1.1.1 in (
      search (a, b, d, e, ⊑_meet, ⊑_static) depth 9,
      (
        search (f, h, ⊑_meet, ⊑_static) depth 9,
        (
          search (⊑_static),
          (
            c.requires.resting.0,
            c.requires.resting.1,
            ap core_of c.requires.idle,
            c.requires.stands,
          ),
        ),
      ),
    )
