use Rattle.std.proofs.Common.{sym, subst}
use Rattle.boot_run.specs.Raised.{BootsRaised, fuse_answer}
use Rattle.secure_fuse.specs.Bits.{level_of}
use Rattle.boot_run.proofs.StartedLemmas.{on_err_any}
use Rattle.boot_run.proofs.RaisedLemmas.{left_crash_of, left_still, left_still_above, raises_boots, raises_left, raises_moments}
use Rattle.boot_run.proofs.raising.confirm_fuse.Goals as goal

-- all of it follows from the steps, the answer and what was burnt
pub returns-clause-left : goal.returns-clause-left
returns-clause-left g c =
    let n = g.D.Nor in
    let z = g.Z.Fuses in
    raises_left n.may_end n.may_tear n.may_refuse n.must_refuse z.burnt z.left c.args.layout.now
    (n.setting c.args.device.now) (n.steps c.args.device.now) (n.steps c.raise_on.new.device)
    (n.bytes c.args.device.now) (n.bytes c.raise_on.new.device) c.args.fuse.now
    c.raise_on.new.fuse c.raise_on.result c.raise_on.ensures.steps

pub returns-clause-moments : goal.returns-clause-moments
returns-clause-moments g c =
    let n = g.D.Nor in
    let z = g.Z.Fuses in
    raises_moments n.may_end n.may_tear n.may_refuse n.must_refuse z.burnt z.left c.args.layout.now
    (n.setting c.args.device.now) (n.steps c.args.device.now) (n.steps c.raise_on.new.device)
    (n.bytes c.args.device.now) (n.bytes c.raise_on.new.device) c.args.fuse.now
    c.raise_on.new.fuse c.raise_on.result c.raise_on.ensures.steps

pub returns-clause-boots : goal.returns-clause-boots
returns-clause-boots g c =
    let n = g.D.Nor in
    let z = g.Z.Fuses in
    let old = n.bytes c.args.device.now in
    let new = n.bytes c.raise_on.new.device in
    subst (BootsRaised (level_of (z.burnt c.raise_on.new.fuse)) c.args.layout.now old new)
    (sym c.fused.ensures.exact)
    (raises_boots n.may_end n.may_tear n.may_refuse n.must_refuse z.burnt z.left c.args.layout.now
    (n.setting c.args.device.now) (n.size c.args.device.now) (n.steps c.args.device.now)
    (n.steps c.raise_on.new.device) old new c.args.fuse.now c.raise_on.new.fuse c.raise_on.result
    c.requires.placed (λ flash told. g.met.D.Nor.sized c.args.device.now flash told)
    c.raise_on.ensures.stored c.raise_on.ensures.steps)

pub returns-clause-crash : goal.returns-clause-crash
returns-clause-crash g c =
    let n = g.D.Nor in
    let z = g.Z.Fuses in
    on_err_any (fuse_answer c.fused.result)
    (left_crash_of c.args.layout.now (n.size c.args.device.now) (n.bytes c.args.device.now)
    (z.burnt c.args.fuse.now) (n.bytes c.raise_on.new.device) (z.burnt c.raise_on.new.fuse)
    c.requires.placed (returns-clause-left g c))

pub returns-clause-still : goal.returns-clause-still
returns-clause-still g c =
    let n = g.D.Nor in
    let z = g.Z.Fuses in
    left_still c.args.layout.now (n.size c.args.device.now) (n.bytes c.args.device.now)
    (z.burnt c.args.fuse.now) (n.bytes c.raise_on.new.device) (z.burnt c.raise_on.new.fuse)
    c.requires.placed (returns-clause-left g c)

pub returns-clause-still_above : goal.returns-clause-still_above
returns-clause-still_above g c =
    let n = g.D.Nor in
    let z = g.Z.Fuses in
    left_still_above c.args.layout.now (n.size c.args.device.now) (n.bytes c.args.device.now)
    (z.burnt c.args.fuse.now) (n.bytes c.raise_on.new.device) (z.burnt c.raise_on.new.fuse)
    c.requires.placed (returns-clause-left g c)
