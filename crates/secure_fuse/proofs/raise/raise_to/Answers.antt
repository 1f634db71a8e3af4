use Rattle.std.proofs.Common.{◌≡◌, inl, inr, ◌<◌, ◌-◌, ◌^◌, suc, ◌+◌, ap, sym, ◌∙◌, refl, arith, subst}
use Rattle.secure_fuse.specs.Bits.{level_of, filled, IsStage}
use Rattle.secure_fuse.specs.Fuses.{more, one_more}
use Rattle.secure_fuse.proofs.BitLemmas.{filled_none}
use Rattle.secure_fuse.proofs.StageLemmas.{stage_of, next_word, next_level, next_stage, next_called, on_err_so}
use Rattle.secure_fuse.proofs.raise.raise_to.Goals as goal

-- no bit is burnt so far
pub loop-init : goal.loop-init
loop-init g c =
    let z = g.Z.Fuses in
    let old = z.burnt c.args.fuse.now in
    let here : c.level-before.result ≡ level_of old = c.level-before.ensures.exact ∙ ap level_of c.bits.ensures.exact in
    let none : c.level-before.result - level_of old ≡ 0 = omega arith in
    record {
      bits = sym (filled_none 32 old) ∙ ap (λ n. filled 32 n old) (sym none);
      level = sym here;
      before = here;
      word = subst (λ n. n < 2 ^ 32) c.bits.ensures.exact c.bits.type_inv;
      start = omega arith;
      end = omega arith;
      same = λ _. refl;
      calls = ap (λ n. more n (z.calls c.args.fuse.now)) (sym none);
      faults = refl;
      moments = λ bits left. inl left;
    }

-- one more bit is burnt
pub loop-preserved : goal.loop-preserved
loop-preserved g c =
    let z = g.Z.Fuses in
    let old = z.burnt c.args.fuse.now in
    let now = z.burnt c.loop.fuse in
    let i = c.loop.counter in
    let l = c.loop.invariant in
    let f = c.in_ok-burn_lowest.ensures in
    let low : i < c.args.want = omega arith in
    let one : i + 1 - level_of old ≡ suc (i - level_of old) = omega (arith, l.start) in
    record {
      bits = f.burnt ∙ next_word old now c.args.want i l.word f.word l.bits l.level l.start low c.requires.want;
      level = ap level_of f.burnt
          ∙ next_level old now c.args.want i l.word f.word l.bits l.level l.start low c.requires.want;
      before = l.before;
      word = l.word;
      start = omega (arith, l.start);
      end = omega arith;
      same = λ is. absurd (omega (arith, is, l.start));
      calls = f.calls ∙ ap one_more l.calls ∙ ap (λ n. more n (z.calls c.args.fuse.now)) (sym one);
      faults = f.cause.ok ∙ l.faults;
      moments = λ bits left. elim (f.moments bits left) [
        | inl before ↦ l.moments bits before
        | inr may ↦ inr (next_stage old now c.args.want i l.word f.word l.bits l.level l.start low c.requires.want bits may)
      ];
    }

-- the burn that was refused left its bit clear, or burnt
pub returns-in_err-burn_lowest-clause-stage : goal.returns-in_err-burn_lowest-clause-stage
returns-in_err-burn_lowest-clause-stage g c =
    let l = c.loop.invariant in
    let f = c.in_err-burn_lowest.ensures in
    next_stage _ _ c.args.want c.loop.counter l.word f.word l.bits l.level l.start (omega arith) c.requires.want _ f.failed

-- and so did a loss of power in it
pub returns-in_err-burn_lowest-clause-moments : goal.returns-in_err-burn_lowest-clause-moments
returns-in_err-burn_lowest-clause-moments g c bits left =
    let l = c.loop.invariant in
    let f = c.in_err-burn_lowest.ensures in
    elim (f.moments bits left) [
      | inl before ↦ l.moments bits before
      | inr may ↦ inr (next_stage _ _ c.args.want c.loop.counter l.word f.word l.bits l.level l.start (omega arith) c.requires.want bits may)
    ]

-- the refused call is one more than the levels, or the last of them
pub returns-in_err-burn_lowest-clause-tried : goal.returns-in_err-burn_lowest-clause-tried
returns-in_err-burn_lowest-clause-tried g c =
    let l = c.loop.invariant in
    let f = c.in_err-burn_lowest.ensures in
    on_err_so _ _ (next_called _ _ c.args.want c.loop.counter l.word f.word l.bits l.level l.start (omega arith) c.requires.want
    _ _ _ _ l.calls f.calls f.failed)

-- the level that was wanted is reached
pub returns-clause-stage : goal.returns-clause-stage
returns-clause-stage g c =
    let l = c.loop.invariant in
    let old = g.Z.Fuses.burnt c.args.fuse.now in
    let most = c.level-before.ensures.most in
    let same : level_of old + (c.loop.counter - level_of old) ≡ c.loop.counter = omega (arith, l.start) in
    subst (IsStage old c.args.want) (sym l.bits)
    (stage_of old c.args.want (c.loop.counter - level_of old) l.word (omega arith) (omega arith))
