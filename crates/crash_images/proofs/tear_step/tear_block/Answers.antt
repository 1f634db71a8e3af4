use Rattle.std.proofs.Common.{rules, ◌≡◌, ◌≤◌, ◌+◌, ◌*◌, ℕ, List, Some, length, sym, subst, arith, refl}
use Rattle.std.proofs.lemmas.Result.{err_from_is_err_and}
use Rattle.nor_device.specs.declared.step.Step.TheVariants.{Block}
use Rattle.crash_images.specs.TearStep.{IsMaskedBy}
use Rattle.crash_images.proofs.Told.{masked_none, masked_next, outside_more, outside_torn, same_outside}
use Rattle.crash_images.proofs.tear_step.tear_block.Goals as goal

-- no sector is torn yet
pub loop-done-init : goal.loop-done-init
loop-done-init g c = let n = g.D.Nor in record {
  inside = omega arith;
  room = search rules;
  on = search rules;
  idle = search rules;
  masked = masked_none (c.args.block * 65536) c.args.tear (n.bytes c.args.inner.now);
  outside = same_outside (c.args.block * 65536) (c.args.block * 65536 + 65536)
      (n.bytes c.args.inner.now) (n.bytes c.args.inner.now) refl;
  setting = search rules;
  faults_same = refl;
}

-- one sector more is torn
pub loop-done-preserved : goal.loop-done-preserved
loop-done-preserved g c =
    let n = g.D.Nor in
    let done = c.loop-done.done in
    let at = c.args.block * 65536 in
    let room : (flash : List ℕ) → n.bytes c.args.inner.now ≡ Some flash
    → at + done * 4096 ≤ length flash =
    λ flash told. let long : at + 65536 ≤ length flash = subst (λ (k : ℕ). at + 65536 ≤ k)
    (sym (g.met.D.Nor.sized c.args.inner.now flash told)) c.requires.start.inside in omega arith in
    let next : (c.args.block * 16 + done) * 4096 ≡ at + done * 4096 = omega arith in
    let more : done * 4096 + 4096 ≡ (done + 1) * 4096 = omega arith in
    let low : at ≤ (c.args.block * 16 + done) * 4096 = omega arith in
    let high : (c.args.block * 16 + done) * 4096 + 4096 ≤ at + 65536 = omega arith in
    record {
      inside = omega arith;
      room = search rules;
      on = search rules;
      idle = search rules;
      masked = subst (λ (k : ℕ). IsMaskedBy at k c.args.tear 0 (n.bytes c.args.inner.now)
          (n.bytes c.tear_sector.new.inner)) more
          (masked_next at (done * 4096) 4096 _ (done * 4096) c.args.tear _ _ _ room next refl
          c.loop-done.invariant.masked c.in_ok-tear_sector.ensures.masked);
      outside = outside_more at (at + 65536) _ 4096 _ _ _ low high c.loop-done.invariant.outside
          c.tear_sector.ensures.outside;
      setting = search rules;
      faults_same = search rules;
    }

-- the sector that was refused lies in the block
pub returns-in_err-tear_sector-clause-refused : goal.returns-in_err-tear_sector-clause-refused
returns-in_err-tear_sector-clause-refused g c =
    let done = c.loop-done.done in
    let at = c.args.block * 65536 in
    let p = err_from_is_err_and c.from_residual.result c.from_residual.ensures.1 in
    let low : at ≤ (c.args.block * 16 + done) * 4096 = omega arith in
    let high : (c.args.block * 16 + done) * 4096 + 4096 ≤ at + 65536 = omega arith in
    rw p.1 (outside_torn (Block c.args.block) refl at 65536 _ _ refl refl
    (outside_more at (at + 65536) _ 4096 _ _ _ low high c.loop-done.invariant.outside
    c.tear_sector.ensures.outside))

-- all sixteen are torn
pub returns-clause-torn : goal.returns-clause-torn
returns-clause-torn g c =
    let n = g.D.Nor in
    let all : c.loop-done.done * 4096 ≡ 65536 = omega arith in
    subst (λ (k : ℕ). IsMaskedBy (c.args.block * 65536) k c.args.tear 0 (n.bytes c.args.inner.now)
    (n.bytes c.loop-done.inner)) all c.loop-done.invariant.masked
