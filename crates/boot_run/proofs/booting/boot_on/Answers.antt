use Rattle.std.proofs.lemmas.Result.{IfOk-weaker, err_from_is_err_and}
use Rattle.boot_select.specs.Settled.{sectors}
use Rattle.boot_select.specs.Boots.{entries_in}
use Rattle.rollback.specs.Boot.{boot_writes}
use Rattle.boot_run.specs.Made.{AreMadeBy}
use Rattle.boot_run.specs.Rewriting.{rewrites}
use Rattle.boot_run.specs.Above.{held_above}
use Rattle.boot_run.specs.Booted.{CountsSteps}
use Rattle.boot_run.proofs.MadeLemmas.{made_by, made_by_left, made_by_ok, missed_none}
use Rattle.boot_run.proofs.CrashLemmas.{told_boots, told_boots_above}
use Rattle.boot_run.proofs.WritesLemmas.{boot_are}
use Rattle.boot_run.proofs.StartedLemmas.{any_entries, boot_by, by_short, on_err_any, read_boots, read_crash, read_steps, unread_crash}
use Rattle.boot_run.specs.Paired.{BootSettles, IsPairIn}
use Rattle.boot_run.proofs.ToldPairLemmas.{boot_leaves, boot_pairs, refused_pairs}
use Rattle.boot_run.proofs.booting.boot_on.Goals as goal

-- a read was refused before any step
pub returns-in_err-first-clause-steps : goal.returns-in_err-first-clause-steps
returns-in_err-first-clause-steps g c =
    let n = g.D.Nor in
    let p = err_from_is_err_and c.from_residual.result c.from_residual.ensures.1 in
    rw (p.1, p.2) (any_entries c.args.layout.now (n.bytes c.args.device.now) _ (λ es. (
      missed_none n.may_end n.may_tear n.may_refuse n.must_refuse (n.setting c.args.device.now)
          (rewrites c.args.layout.now.otadata (boot_writes es)) (n.steps c.args.device.now) _
          (n.bytes c.args.device.now) _ _ c.read_entries.ensures.setting.steps_same
          c.read_entries.ensures.same.bytes_same c.in_err-first.ensures.allowed,
      tt,
    )))

pub returns-in_err-first-clause-crash : goal.returns-in_err-first-clause-crash
returns-in_err-first-clause-crash g c =
    let n = g.D.Nor in
    let p = err_from_is_err_and c.from_residual.result c.from_residual.ensures.1 in
    rw p.1 (unread_crash c.args.layout.now _
    (λ flash. boot_writes (entries_in c.args.layout.now flash))
    (n.bytes c.args.device.now) _ c.requires.placed
    (λ flash. boot_are (entries_in c.args.layout.now flash))
    c.read_entries.ensures.same.bytes_same)

-- the rewrites by the entries that were read
pub returns-clause-steps : goal.returns-clause-steps
returns-clause-steps g c =
    let n = g.D.Nor in
    let read = c.read_entries.ensures in
    let it = c.boot_by.ensures in
    let e0 = c.in_ok-first.first in
    let e1 = c.in_ok-first.second in
    read_steps c.args.layout.now e0 e1 (n.bytes c.args.device.now)
    (λ steps. AreMadeBy n.may_end n.may_tear n.may_refuse n.must_refuse
    (n.setting c.args.device.now) steps
    (n.steps c.args.device.now) (n.steps c.boot_by.new.device) (n.bytes c.args.device.now)
    (n.bytes c.boot_by.new.device) c.boot_by.result × CountsSteps steps c.boot_by.result)
    c.in_ok-first.ensures.first c.in_ok-first.ensures.second (
      made_by n.may_end n.may_tear n.may_refuse n.must_refuse _ _ _ _ _ _ _ _ _ c.boot_by.result
          read.setting.setting_same read.setting.steps_same read.same.bytes_same it.made it.missed,
      it.steps,
    )

pub returns-clause-boots : goal.returns-clause-boots
returns-clause-boots g c =
    let n = g.D.Nor in
    read_boots (held_above c.args.level) c.args.layout.now c.in_ok-first.first c.in_ok-first.second
    (n.bytes c.args.device.now)
    (n.bytes c.read_entries.new.device) c.boot_by.result c.read_entries.ensures.same.bytes_same
    c.in_ok-first.ensures.first c.in_ok-first.ensures.second c.boot_by.ensures.boots

-- whatever the answer, the bytes are left at some moment of the rewrites
pub returns-clause-crash : goal.returns-clause-crash
returns-clause-crash g c =
    let n = g.D.Nor in
    let read = c.read_entries.ensures in
    let it = c.boot_by.ensures in
    let made = made_by n.may_end n.may_tear n.may_refuse n.must_refuse (n.setting c.args.device.now)
    _ _ _ _ _ _ _ _
    c.boot_by.result read.setting.setting_same read.setting.steps_same read.same.bytes_same it.made
    it.missed in
    on_err_any c.boot_by.result (read_crash c.args.layout.now _ boot_writes c.in_ok-first.first
    c.in_ok-first.second
    (n.bytes c.args.device.now) (n.bytes c.boot_by.new.device) c.requires.placed boot_by
    c.in_ok-first.ensures.first
    c.in_ok-first.ensures.second
    (made_by_left n.may_end n.may_tear n.may_refuse n.must_refuse _ _ _ _ _ _ c.boot_by.result
    made))

pub returns-clause-still : goal.returns-clause-still
returns-clause-still g c =
    let n = g.D.Nor in
    let read = c.read_entries.ensures in
    let it = c.boot_by.ensures in
    let e0 = c.in_ok-first.first in
    let e1 = c.in_ok-first.second in
    let made = made_by n.may_end n.may_tear n.may_refuse n.must_refuse (n.setting c.args.device.now)
    _ _ _ _ _ _ _ _
    c.boot_by.result read.setting.setting_same read.setting.steps_same read.same.bytes_same it.made
    it.missed in
    told_boots c.args.layout.now _ (boot_writes (sectors e0 e1)) (n.bytes c.args.device.now)
    (n.bytes c.boot_by.new.device) c.requires.placed
    (by_short boot_writes e0 e1 boot_by c.in_ok-first.ensures.stored.0
    c.in_ok-first.ensures.stored.1)
    (made_by_left n.may_end n.may_tear n.may_refuse n.must_refuse _ _ _ _ _ _ c.boot_by.result made)

pub returns-clause-still_above : goal.returns-clause-still_above
returns-clause-still_above g c =
    let n = g.D.Nor in
    let read = c.read_entries.ensures in
    let it = c.boot_by.ensures in
    let e0 = c.in_ok-first.first in
    let e1 = c.in_ok-first.second in
    let made = made_by n.may_end n.may_tear n.may_refuse n.must_refuse (n.setting c.args.device.now)
    _ _ _ _ _ _ _ _
    c.boot_by.result read.setting.setting_same read.setting.steps_same read.same.bytes_same it.made
    it.missed in
    told_boots_above c.args.level c.args.layout.now _ (boot_writes (sectors e0 e1))
    (n.bytes c.args.device.now)
    (n.bytes c.boot_by.new.device) c.requires.placed
    (by_short boot_writes e0 e1 boot_by c.in_ok-first.ensures.stored.0
    c.in_ok-first.ensures.stored.1)
    (made_by_left n.may_end n.may_tear n.may_refuse n.must_refuse _ _ _ _ _ _ c.boot_by.result made)

-- a pair stays
pub returns-in_err-first-clause-pair : goal.returns-in_err-first-clause-pair
returns-in_err-first-clause-pair g c =
    let n = g.D.Nor in
    let layout = c.args.layout.now in
    let p = err_from_is_err_and c.from_residual.result c.from_residual.ensures.1 in
    rw p.1 (refused_pairs layout (IsPairIn layout)
    (λ flash. boot_writes (entries_in layout flash)) (BootSettles layout)
    (n.bytes c.args.device.now) _ (boot_leaves layout _ c.requires.placed)
    c.read_entries.ensures.same.bytes_same)

pub returns-clause-pair : goal.returns-clause-pair
returns-clause-pair g c =
    let n = g.D.Nor in
    let read = c.read_entries.ensures in
    let it = c.boot_by.ensures in
    let e0 = c.in_ok-first.first in
    let e1 = c.in_ok-first.second in
    let made = made_by n.may_end n.may_tear n.may_refuse n.must_refuse (n.setting c.args.device.now)
    _ _ _ _ _ _ _ _
    c.boot_by.result read.setting.setting_same read.setting.steps_same read.same.bytes_same it.made
    it.missed in
    boot_pairs c.args.layout.now (n.size c.args.device.now) e0 e1 (n.bytes c.args.device.now)
    (n.bytes c.boot_by.new.device) c.boot_by.result c.requires.placed
    (λ flash told. g.met.D.Nor.sized c.args.device.now flash told)
    c.in_ok-first.ensures.first c.in_ok-first.ensures.second c.in_ok-first.ensures.stored.0
    c.in_ok-first.ensures.stored.1
    (made_by_left n.may_end n.may_tear n.may_refuse n.must_refuse _ _ _ _ _ _ c.boot_by.result made)
    (IfOk-weaker c.boot_by.result _ _ (λ x all. all.bytes)
    (made_by_ok n.may_end n.may_tear n.may_refuse n.must_refuse _ _ _ _ _ _ c.boot_by.result made))
