use Rattle.std.proofs.lemmas.Result.{err_from_is_err_and}
use Rattle.boot_run.proofs.MadeLemmas.{missed_none}
use Rattle.boot_run.proofs.StartedLemmas.{any_entries, read_pair}
use Rattle.boot_run.proofs.RaisedLemmas.{Raises, any_versions, made_since, more_versions, on_ok_any, stored_read, unburnt}
use Rattle.boot_select.specs.Settled.{sectors}
use Rattle.boot_run.specs.Raised.{OfVersions}
use Rattle.boot_run.proofs.raising.raise_on.Goals as goal

-- a read was refused before any step
pub returns-in_err-first-clause-steps : goal.returns-in_err-first-clause-steps
returns-in_err-first-clause-steps g c =
    let n = g.D.Nor in
    let z = g.Z.Fuses in
    let p = err_from_is_err_and c.from_residual.result c.from_residual.ensures.1 in
    rw (p.1, p.2) (any_entries c.args.layout.now (n.bytes c.args.device.now) _ (λ es.
    any_versions c.args.layout.now (n.bytes c.args.device.now) _ (λ versions. (
      missed_none n.may_end n.may_tear n.may_refuse n.must_refuse (n.setting c.args.device.now)
          _ (n.steps c.args.device.now) _
          (n.bytes c.args.device.now) _ _ c.read_entries.ensures.setting.steps_same
          c.read_entries.ensures.same.bytes_same c.in_err-first.ensures.allowed,
      tt,
      unburnt n.may_end n.may_tear n.may_refuse n.must_refuse z.burnt z.left _ _ _,
    ))))

-- by the entries that were read
pub returns-clause-steps : goal.returns-clause-steps
returns-clause-steps g c =
    let n = g.D.Nor in
    let z = g.Z.Fuses in
    let layout = c.args.layout.now in
    let read = c.read_entries.ensures in
    let old = n.bytes c.args.device.now in
    read_pair layout c.in_ok-first.first c.in_ok-first.second old
    (λ e0 e1. OfVersions layout old (λ versions.
    Raises n.may_end n.may_tear n.may_refuse n.must_refuse z.burnt z.left layout
    (n.setting c.args.device.now) (n.steps c.args.device.now) (n.steps c.raise_read.new.device) old
    (n.bytes c.raise_read.new.device) c.args.fuse.now c.raise_read.new.fuse c.raise_read.result
    (sectors e0 e1) versions))
    c.in_ok-first.ensures.first c.in_ok-first.ensures.second
    (more_versions layout old (n.bytes c.read_entries.new.device) _ _ read.same.bytes_same
    c.raise_read.ensures.steps
    (λ versions all. (
      made_since n.may_end n.may_tear n.may_refuse n.must_refuse z.burnt z.left _ _ _ _ _ _ _ _ _
          c.raise_read.result read.setting.setting_same read.setting.steps_same read.same.bytes_same
          all.0,
      all.1,
      all.2,
    )))

pub returns-clause-stored : goal.returns-clause-stored
returns-clause-stored g c =
    on_ok_any c.raise_read.result
    (stored_read c.args.layout.now c.in_ok-first.first c.in_ok-first.second
    (g.D.Nor.bytes c.args.device.now) c.in_ok-first.ensures.first c.in_ok-first.ensures.second
    c.in_ok-first.ensures.stored.0 c.in_ok-first.ensures.stored.1)
