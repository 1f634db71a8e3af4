use Rattle.std.proofs.Common.{List, ℕ, Option, IfSome, IfOk, subst, ◌∙◌}
use Rattle.std.proofs.lemmas.Result.{IfOk-weaker, err_from_is_err_and}
use Rattle.boot_select.specs.Candidates.{is_whole}
use Rattle.boot_select.specs.Choice.{named_of}
use Rattle.boot_select.specs.Settled.{sectors}
use Rattle.boot_select.specs.Boots.{AreTold, entries_in, images_in}
use Rattle.image_verify.specs.Held.{held}
use Rattle.rollback.specs.Verdict.{reject_of}
use Rattle.boot_run.specs.Made.{AreMadeBy}
use Rattle.boot_run.specs.Rewriting.{rewrites}
use Rattle.boot_run.specs.Read.{whole_in}
use Rattle.boot_run.specs.Verdict.{Answers, just_one, rejection, writes_of}
use Rattle.boot_run.proofs.MadeLemmas.{made_by, made_by_left, made_by_ok, missed_none}
use Rattle.boot_run.proofs.CrashLemmas.{told_boots}
use Rattle.boot_run.proofs.StartedLemmas.{by_short, left_crash, on_err_any, unread_crash}
use Rattle.boot_run.proofs.VerdictLemmas.{any_whole, read_whole, reject_are, rejection_by, rejection_same}
use Rattle.boot_run.specs.Paired.{IsActivePair}
use Rattle.boot_run.proofs.ToldPairLemmas.{refused_pairs, reject_leaves, reject_pairs}
use Rattle.boot_run.proofs.rejecting.reject_on.Goals as goal

-- a read of the entries was refused
pub returns-in_err-first-clause-steps : goal.returns-in_err-first-clause-steps
returns-in_err-first-clause-steps g c =
    let n = g.D.Nor in
    let layout = c.args.layout.now in
    let p = err_from_is_err_and c.from_residual.result c.from_residual.ensures.1 in
    rw (p.1, p.2) (any_whole layout (n.bytes c.args.device.now) _ (λ es whole. (
      missed_none n.may_end n.may_tear n.may_refuse n.must_refuse (n.setting c.args.device.now)
          (rewrites layout.otadata (writes_of (rejection layout whole es)))
          (n.steps c.args.device.now) _
          (n.bytes c.args.device.now) _ _ c.read_entries.ensures.setting.steps_same
          c.read_entries.ensures.same.bytes_same c.in_err-first.ensures.allowed,
      tt,
    )))

pub returns-in_err-first-clause-crash : goal.returns-in_err-first-clause-crash
returns-in_err-first-clause-crash g c =
    let n = g.D.Nor in
    let layout = c.args.layout.now in
    let p = err_from_is_err_and c.from_residual.result c.from_residual.ensures.1 in
    rw p.1 (unread_crash layout _
    (λ flash. writes_of (rejection layout (whole_in layout flash) (entries_in layout flash)))
    (n.bytes c.args.device.now) _ c.requires.placed
    (λ flash. reject_are layout (whole_in layout flash) (entries_in layout flash))
    c.read_entries.ensures.same.bytes_same)

-- a read of an image was refused
pub returns-in_err-whole-clause-steps : goal.returns-in_err-whole-clause-steps
returns-in_err-whole-clause-steps g c =
    let n = g.D.Nor in
    let layout = c.args.layout.now in
    let read = c.read_entries.ensures in
    let looked = c.whole_on.ensures in
    let p = err_from_is_err_and c.from_residual-in_err-whole.result
    c.from_residual-in_err-whole.ensures.1 in
    let allowed = subst (λ s. n.may_refuse s (n.steps c.args.device.now) c.in_err-whole.field-0.0)
    read.setting.setting_same
    (subst (λ k. n.may_refuse (n.setting c.read_entries.new.device) k c.in_err-whole.field-0.0)
    read.setting.steps_same
    c.in_err-whole.ensures.allowed) in
    rw (p.1, p.2) (any_whole layout (n.bytes c.args.device.now) _ (λ es whole. (
      missed_none n.may_end n.may_tear n.may_refuse n.must_refuse (n.setting c.args.device.now)
          (rewrites layout.otadata (writes_of (rejection layout whole es)))
          (n.steps c.args.device.now) _
          (n.bytes c.args.device.now) _ _ (looked.setting.steps_same ∙ read.setting.steps_same)
          (looked.same.bytes_same ∙ read.same.bytes_same) allowed,
      tt,
    )))

pub returns-in_err-whole-clause-crash : goal.returns-in_err-whole-clause-crash
returns-in_err-whole-clause-crash g c =
    let n = g.D.Nor in
    let layout = c.args.layout.now in
    let p = err_from_is_err_and c.from_residual-in_err-whole.result
    c.from_residual-in_err-whole.ensures.1 in
    rw p.1 (unread_crash layout _
    (λ flash. writes_of (rejection layout (whole_in layout flash) (entries_in layout flash)))
    (n.bytes c.args.device.now) _ c.requires.placed
    (λ flash. reject_are layout (whole_in layout flash) (entries_in layout flash))
    (c.whole_on.ensures.same.bytes_same ∙ c.read_entries.ensures.same.bytes_same))

-- the rewrite by what was read
pub returns-clause-steps : goal.returns-clause-steps
returns-clause-steps g c =
    let n = g.D.Nor in
    let layout = c.args.layout.now in
    let read = c.read_entries.ensures in
    let looked = c.whole_on.ensures in
    let it = c.reject_by.ensures in
    let whole = is_whole c.in_ok-whole.whole in
    let told = subst (λ (m : Option (List ℕ)). IfSome m
    (λ flash. AreTold layout whole (images_in held layout flash)))
    read.same.bytes_same c.in_ok-whole.ensures.told in
    read_whole layout c.in_ok-first.first c.in_ok-first.second whole (n.bytes c.args.device.now)
    (λ e0 e1 w. AreMadeBy n.may_end n.may_tear n.may_refuse n.must_refuse
    (n.setting c.args.device.now)
    (rewrites layout.otadata (writes_of (just_one (reject_of layout w e0 e1))))
    (n.steps c.args.device.now) (n.steps c.reject_by.new.device) (n.bytes c.args.device.now)
    (n.bytes c.reject_by.new.device) c.reject_by.result
    × IfOk c.reject_by.result
    (Answers layout.otadata (named_of layout e0 e1) (just_one (reject_of layout w e0 e1))))
    c.in_ok-first.ensures.first c.in_ok-first.ensures.second told (
      made_by n.may_end n.may_tear n.may_refuse n.must_refuse _ _ _ _ _ _ _ _ _ c.reject_by.result
          (looked.setting.setting_same ∙ read.setting.setting_same)
          (looked.setting.steps_same ∙ read.setting.steps_same)
          (looked.same.bytes_same ∙ read.same.bytes_same) it.made it.missed,
      it.answers,
    )

-- whatever the answer, the bytes are left at some moment of the rewrite
pub returns-clause-crash : goal.returns-clause-crash
returns-clause-crash g c =
    let n = g.D.Nor in
    let layout = c.args.layout.now in
    let read = c.read_entries.ensures in
    let looked = c.whole_on.ensures in
    let it = c.reject_by.ensures in
    let e0 = c.in_ok-first.first in
    let e1 = c.in_ok-first.second in
    let whole = is_whole c.in_ok-whole.whole in
    let told = subst (λ (m : Option (List ℕ)). IfSome m
    (λ flash. AreTold layout whole (images_in held layout flash)))
    read.same.bytes_same c.in_ok-whole.ensures.told in
    let made = made_by n.may_end n.may_tear n.may_refuse n.must_refuse (n.setting c.args.device.now)
    _ _ _ _ _ _ _ _
    c.reject_by.result (looked.setting.setting_same ∙ read.setting.setting_same)
    (looked.setting.steps_same ∙ read.setting.steps_same)
    (looked.same.bytes_same ∙ read.same.bytes_same) it.made it.missed in
    on_err_any c.reject_by.result (left_crash layout _
    (λ flash. writes_of (rejection layout (whole_in layout flash) (entries_in layout flash)))
    (writes_of (rejection layout whole (sectors e0 e1))) (n.bytes c.args.device.now)
    (n.bytes c.reject_by.new.device)
    c.requires.placed (λ flash. reject_are layout (whole_in layout flash) (entries_in layout flash))
    (rejection_same layout e0 e1 whole (n.bytes c.args.device.now) c.in_ok-whole.ensures.some
    c.in_ok-first.ensures.first c.in_ok-first.ensures.second told)
    (made_by_left n.may_end n.may_tear n.may_refuse n.must_refuse _ _ _ _ _ _ c.reject_by.result
    made))

pub returns-clause-still : goal.returns-clause-still
returns-clause-still g c =
    let n = g.D.Nor in
    let layout = c.args.layout.now in
    let read = c.read_entries.ensures in
    let looked = c.whole_on.ensures in
    let it = c.reject_by.ensures in
    let e0 = c.in_ok-first.first in
    let e1 = c.in_ok-first.second in
    let whole = is_whole c.in_ok-whole.whole in
    let made = made_by n.may_end n.may_tear n.may_refuse n.must_refuse (n.setting c.args.device.now)
    _ _ _ _ _ _ _ _
    c.reject_by.result (looked.setting.setting_same ∙ read.setting.setting_same)
    (looked.setting.steps_same ∙ read.setting.steps_same)
    (looked.same.bytes_same ∙ read.same.bytes_same) it.made it.missed in
    told_boots layout _ (writes_of (rejection layout whole (sectors e0 e1)))
    (n.bytes c.args.device.now)
    (n.bytes c.reject_by.new.device) c.requires.placed
    (by_short (λ es. writes_of (rejection layout whole es)) e0 e1 (rejection_by layout whole)
    c.in_ok-first.ensures.stored.0 c.in_ok-first.ensures.stored.1)
    (made_by_left n.may_end n.may_tear n.may_refuse n.must_refuse _ _ _ _ _ _ c.reject_by.result
    made)

-- a pair stays
pub returns-in_err-first-clause-pair : goal.returns-in_err-first-clause-pair
returns-in_err-first-clause-pair g c =
    let n = g.D.Nor in
    let layout = c.args.layout.now in
    let p = err_from_is_err_and c.from_residual.result c.from_residual.ensures.1 in
    rw p.1 (refused_pairs layout (IsActivePair layout)
    (λ flash. writes_of (rejection layout (whole_in layout flash) (entries_in layout flash)))
    (λ flash pair left. Unit {0})
    (n.bytes c.args.device.now) _ (reject_leaves layout _ c.requires.placed)
    c.read_entries.ensures.same.bytes_same)

pub returns-in_err-whole-clause-pair : goal.returns-in_err-whole-clause-pair
returns-in_err-whole-clause-pair g c =
    let n = g.D.Nor in
    let layout = c.args.layout.now in
    let p = err_from_is_err_and c.from_residual-in_err-whole.result
    c.from_residual-in_err-whole.ensures.1 in
    rw p.1 (refused_pairs layout (IsActivePair layout)
    (λ flash. writes_of (rejection layout (whole_in layout flash) (entries_in layout flash)))
    (λ flash pair left. Unit {0})
    (n.bytes c.args.device.now) _ (reject_leaves layout _ c.requires.placed)
    (c.whole_on.ensures.same.bytes_same ∙ c.read_entries.ensures.same.bytes_same))

pub returns-clause-pair : goal.returns-clause-pair
returns-clause-pair g c =
    let n = g.D.Nor in
    let layout = c.args.layout.now in
    let read = c.read_entries.ensures in
    let looked = c.whole_on.ensures in
    let it = c.reject_by.ensures in
    let e0 = c.in_ok-first.first in
    let e1 = c.in_ok-first.second in
    let whole = is_whole c.in_ok-whole.whole in
    let told = subst (λ (m : Option (List ℕ)). IfSome m
    (λ flash. AreTold layout whole (images_in held layout flash)))
    read.same.bytes_same c.in_ok-whole.ensures.told in
    let made = made_by n.may_end n.may_tear n.may_refuse n.must_refuse (n.setting c.args.device.now)
    _ _ _ _ _ _ _ _
    c.reject_by.result (looked.setting.setting_same ∙ read.setting.setting_same)
    (looked.setting.steps_same ∙ read.setting.steps_same)
    (looked.same.bytes_same ∙ read.same.bytes_same) it.made it.missed in
    reject_pairs layout (n.size c.args.device.now)
    (writes_of (rejection layout whole (sectors e0 e1))) (n.bytes c.args.device.now)
    (n.bytes c.reject_by.new.device) c.reject_by.result c.requires.placed
    (rejection_same layout e0 e1 whole (n.bytes c.args.device.now) c.in_ok-whole.ensures.some
    c.in_ok-first.ensures.first c.in_ok-first.ensures.second told)
    (made_by_left n.may_end n.may_tear n.may_refuse n.must_refuse _ _ _ _ _ _ c.reject_by.result
    made)
    (IfOk-weaker c.reject_by.result _ _ (λ x all. all.bytes)
    (made_by_ok n.may_end n.may_tear n.may_refuse n.must_refuse _ _ _ _ _ _ c.reject_by.result
    made))
