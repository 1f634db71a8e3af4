use Rattle.std.proofs.Common.{◌≡◌, ℕ, List, ◌+◌, ◌-◌, ◌++◌, take, drop, sym, arith, subst}
use Rattle.std.proofs.Math.Seq.{take-add}
use Rattle.std.proofs.lemmas.List.{take_all}
use Rattle.std.specs.Prelude.{IsOk, ◌↔◌}
use Rattle.image_layout.specs.Whole.{Whole}
use Rattle.image_verify.specs.Fed.{HasRead}
use Rattle.image_verify.proofs.tests.verify_by.Goals as goal

-- a piece more was read
pub loop-done-preserved : goal.loop-done-preserved
loop-done-preserved c =
    let bytes = c.args.bytes.now in
    let before = c.loop-done.invariant in
    let done = c.loop-done.done in
    let more = c.min-more.result in
    let only : (done + more) - done ≡ more = omega arith in
    let next : take done bytes ++ take more (drop done bytes) ≡ take (done + more) bytes = sym (take-add done more bytes) in
    let read : HasRead c.feed.new.self c.args.limit (take done bytes ++ take more (drop done bytes)) =
    subst (λ (n : ℕ). HasRead c.feed.new.self c.args.limit (take done bytes ++ take n (drop done bytes))) only
    (c.feed.ensures.read c.args.limit (take done bytes) before.read) in
    record {
      within = omega (arith, before.within, c.min-more.ensures);
      read = subst (HasRead c.feed.new.self c.args.limit) next read;
    }

-- all bytes were read
pub returns : goal.returns
returns c =
    let bytes = c.args.bytes.now in
    let all : take c.loop-done.done bytes ≡ bytes = take_all c.loop-done.done bytes (omega (arith, c.loop-done-test.false)) in
    subst (λ (xs : List ℕ). IsOk c.finish.result ↔ Whole xs c.args.limit) all
    (c.finish.ensures.whole c.args.limit (take c.loop-done.done bytes) c.loop-done.invariant.read)
