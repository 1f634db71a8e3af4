use Rattle.std.proofs.lemmas.Result.{on_err_weaker}
use Rattle.nor_device.proofs.Missed.{on_missed_torn}
use Rattle.crash_images.proofs.LeftOf.{left_of_torn, left_of_more}
use Rattle.crash_images.proofs.tests.rewrite.Goals as goal

-- the erase is whole, and the program was torn
pub returns-clause-left : goal.returns-clause-left
returns-clause-left g c =
    let n = g.D.Nor in
    on_err_weaker c.make_step-2.result
    (λ torn. left_of_more _ _ _ _ _ c.in_ok-make_step.ensures.made (left_of_torn _ _ _ _ torn))
    (on_missed_torn n.may_end n.may_tear n.may_refuse n.must_refuse _ _ _ _ _ _
    c.make_step-2.result c.make_step-2.ensures.missed)
