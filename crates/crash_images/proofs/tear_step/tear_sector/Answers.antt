use Rattle.std.proofs.Common.{rules, ◌≡◌, ◌≤◌, ◌*◌, IfSome, List, ℕ, length, Some, sym, subst, arith, refl}
use Rattle.std.proofs.lemmas.Result.{on_ok_weaker, err_from_is_err_and}
use Rattle.nor_device.specs.declared.step.Step.TheVariants.{Erase}
use Rattle.nor_device.specs.Flash.{end_of}
use Rattle.nor_device.specs.Nor.{part_of}
use Rattle.nor_device.proofs.Missed.{missed_torn}
use Rattle.crash_images.proofs.Told.{missed_by, erase_masked, erase_outside, torn_outside, put_either, same_outside}
use Rattle.crash_images.proofs.tear_step.tear_sector.Goals as goal

-- the bytes with the bits of their masks set stand over the erased sector
pub returns-clause-masked : goal.returns-clause-masked
returns-clause-masked g c =
    let n = g.D.Nor in
    let erase = Erase c.args.sector in
    let inside : (flash : List ℕ) → n.bytes c.args.inner.now ≡ Some flash
    → end_of erase ≤ length flash =
    λ flash told. subst (λ (k : ℕ). end_of erase ≤ k)
    (sym (g.met.D.Nor.sized c.args.inner.now flash told)) c.requires.start.inside in
    on_ok_weaker c.put_back.result
    (erase_masked erase refl _ c.args.tear c.args.first 4096 c.read.new.out
    c.set_mask_bits.new.bytes _ _ _ _ refl refl
    (subst (λ (k : ℕ). IfSome (n.bytes c.args.inner.now)
    (λ flash. c.read.new.out ≡ part_of flash (c.args.sector * 4096) k)) c.requires.room c.in_ok-read.ensures.bytes)
    c.set_mask_bits.ensures.exact c.put_back.ensures.bytes
    inside c.read.ensures.same.bytes_same c.in_ok-make_step.ensures.made) c.put_back.ensures.put

-- what was put back lies in the erased sector
pub returns-clause-outside : goal.returns-clause-outside
returns-clause-outside g c =
    let long : length c.set_mask_bits.new.bytes ≡ 4096 = omega arith in
    erase_outside (Erase c.args.sector) _ 4096 _ _ _ _ refl refl
    c.read.ensures.same.bytes_same c.in_ok-make_step.ensures.made
    (put_either _ 4096 _ _ _ c.put_back.result long c.put_back.ensures.put c.put_back.ensures.refused)

-- a miss of the erase leaves it torn
pub returns-in_err-make_step-clause-outside : goal.returns-in_err-make_step-clause-outside
returns-in_err-make_step-clause-outside g c =
    let n = g.D.Nor in
    torn_outside (Erase c.args.sector) _ 4096 _ _ _ refl refl c.read.ensures.same.bytes_same
    (missed_torn n.may_end n.may_tear n.may_refuse n.must_refuse _ _ _ _ _ _
    c.in_err-make_step.field-0.0 c.in_err-make_step.ensures.missed)

-- and the setting inside allows it
pub returns-in_err-make_step-clause-kept : goal.returns-in_err-make_step-clause-kept
returns-in_err-make_step-clause-kept g c =
    let n = g.D.Nor in
    let p = err_from_is_err_and c.from_residual-in_err-make_step.result
    c.from_residual-in_err-make_step.ensures.1 in
    record {
      idle = search rules;
      allowed = rw p.1 (missed_by n.may_end n.may_tear n.may_refuse n.must_refuse
          (n.setting c.args.inner.now) _ _ _ _ _ _ c.in_err-make_step.field-0.0
          c.read.ensures.setting.setting_same c.in_err-make_step.ensures.missed);
      setting_kept = search rules;
      cause = search rules;
    }

-- a refused read leaves all as it was
pub returns-in_err-read-clause-outside : goal.returns-in_err-read-clause-outside
returns-in_err-read-clause-outside g c = same_outside _ _ _ _ c.read.ensures.same.bytes_same
