use Rattle.std.proofs.Common.{◌≡◌, ◌≤◌, ◌∙◌, ap, arith, length, take}
use Rattle.std.proofs.lemmas.List.{take_all}
use Rattle.nor_device.proofs.page.Page.of.Goals as goal

-- all of a full page
pub returns-in-Some-clause-some : goal.returns-in-Some-clause-some
returns-in-Some-clause-some c =
    let full = c.in-Some.ensures.cases in
    let long : length c.in-Some.full.now ≤ 256 = omega (arith, full.long, ap length full.same) in
    take_all 256 c.in-Some.full.now long ∙ full.same

pub returns-in-Some-clause-fits : goal.returns-in-Some-clause-fits
returns-in-Some-clause-fits c =
    let full = c.in-Some.ensures.cases in
    let long : length c.in-Some.full.now ≡ 256 = omega (arith, full.long, ap length full.same) in
    let all : take 256 c.in-Some.full.now ≡ c.in-Some.full.now =
    take_all 256 c.in-Some.full.now (omega arith) in
    (omega (arith, ap length all), omega (arith, ap length all))
