use Rattle.std.proofs.Common.{◌∙◌, IfOk, refl, ap, subst}
use Rattle.std.proofs.lemmas.Result.{err_from_is_err_and}
use Rattle.boot_select.specs.Choice.{named_of}
use Rattle.rollback.specs.Verdict.{confirm_of}
use Rattle.secure_fuse.specs.Bits.{level_of}
use Rattle.boot_run.specs.Made.{AreMadeBy}
use Rattle.boot_run.specs.Rewriting.{rewrites}
use Rattle.boot_run.specs.Verdict.{one_of, writes_of}
use Rattle.boot_run.specs.Raised.{Burns, Confirms, version_by, writes_for}
use Rattle.boot_run.proofs.MadeLemmas.{made_by, missed_none}
use Rattle.boot_run.proofs.RaisedLemmas.{any_versions, by_fits, more_versions, unburnt}
use Rattle.boot_run.proofs.raising.raise_read.Goals as goal

-- a read was refused before any step
pub returns-in_err-version-clause-steps : goal.returns-in_err-version-clause-steps
returns-in_err-version-clause-steps g c =
    let n = g.D.Nor in
    let z = g.Z.Fuses in
    let p = err_from_is_err_and c.from_residual.result c.from_residual.ensures.1 in
    rw (p.1, p.2) (any_versions c.args.layout.now (n.bytes c.args.device.now) _ (λ versions. (
      missed_none n.may_end n.may_tear n.may_refuse n.must_refuse (n.setting c.args.device.now)
          _ (n.steps c.args.device.now) _
          (n.bytes c.args.device.now) _ _ c.version_on.ensures.setting.steps_same
          c.version_on.ensures.same.bytes_same c.in_err-version.ensures.allowed,
      tt,
      unburnt n.may_end n.may_tear n.may_refuse n.must_refuse z.burnt z.left _ _ _,
    )))

-- the version fits, and an entry is active
pub raise_found-requires-clause-active : goal.raise_found-requires-clause-active
raise_found-requires-clause-active g c =
    let of = c.in_ok-version.ensures.version in
    (by_fits (level_of (g.Z.Fuses.burnt c.args.fuse.now)) of.versions c.args.layout.now c.args.e0.now
    c.args.e1.now c.in_ok-version.version (of.holds ∙ (λ i. version_by ((c.level.ensures.exact ∙ ap (λ b. level_of b) c.bits.ensures.exact) i)
    of.versions (c.named-app.ensures.exact i)))).0

pub raise_found-requires-clause-most : goal.raise_found-requires-clause-most
raise_found-requires-clause-most g c =
    let of = c.in_ok-version.ensures.version in
    (by_fits (level_of (g.Z.Fuses.burnt c.args.fuse.now)) of.versions c.args.layout.now c.args.e0.now
    c.args.e1.now c.in_ok-version.version (of.holds ∙ (λ i. version_by ((c.level.ensures.exact ∙ ap (λ b. level_of b) c.bits.ensures.exact) i)
    of.versions (c.named-app.ensures.exact i)))).1

pub raise_found-requires-clause-rises : goal.raise_found-requires-clause-rises
raise_found-requires-clause-rises g c =
    let of = c.in_ok-version.ensures.version in
    (by_fits (level_of (g.Z.Fuses.burnt c.args.fuse.now)) of.versions c.args.layout.now c.args.e0.now
    c.args.e1.now c.in_ok-version.version (of.holds ∙ (λ i. version_by ((c.level.ensures.exact ∙ ap (λ b. level_of b) c.bits.ensures.exact) i)
    of.versions (c.named-app.ensures.exact i)))).2

-- the confirmation of the version that was found
pub returns-clause-steps : goal.returns-clause-steps
returns-clause-steps g c =
    let n = g.D.Nor in
    let z = g.Z.Fuses in
    let e0 = c.args.e0.now in
    let e1 = c.args.e1.now in
    let read = c.version_on.ensures in
    let it = c.raise_found.ensures in
    let low = level_of (z.burnt c.args.fuse.now) in
    let app = named_of c.args.layout.now e0 e1 in
    let writes = writes_of (one_of (confirm_of e0 e1)) in
    let r = c.raise_found.result in
    more_versions c.args.layout.now (n.bytes c.args.device.now) (n.bytes c.args.device.now) _ _ refl
    c.in_ok-version.ensures.version
    (λ versions is.
    let same = is ∙ (λ i. version_by ((c.level.ensures.exact ∙ ap (λ b. level_of b) c.bits.ensures.exact) i) versions (c.named-app.ensures.exact i)) in
    subst (λ v. AreMadeBy n.may_end n.may_tear n.may_refuse n.must_refuse
    (n.setting c.args.device.now) (rewrites c.args.layout.now.otadata (writes_for v writes))
    (n.steps c.args.device.now) (n.steps c.raise_found.new.device) (n.bytes c.args.device.now)
    (n.bytes c.raise_found.new.device) r
    × IfOk r (Confirms c.args.layout.now.otadata app (writes_for v writes) v)
    × Burns z.burnt z.left c.args.fuse.now c.raise_found.new.fuse v r) same (
      made_by n.may_end n.may_tear n.may_refuse n.must_refuse _ _ _ _ _ _ _ _ _ r
          read.setting.setting_same read.setting.steps_same read.same.bytes_same it.made it.missed,
      it.answers,
      it.burns,
    ))
