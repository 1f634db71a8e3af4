use Rattle.std.proofs.Common.{◌≡◌, ◌≤◌, ◌+◌, ℕ, List, length, Some, arith, rules, subst, ap, ◌∙◌, take, IfSome}
use Rattle.std.specs.Prelude.{min}
use Rattle.std.proofs.lemmas.List.{length-take}
use Rattle.boot_select.specs.Boots.{slot_in}
use Rattle.boot_run.proofs.ReadLemmas.{Between, told_more, told_last}
use Rattle.boot_run.proofs.verify.verify_on.Goals as goal

-- one piece more was read
pub loop-more-preserved : goal.loop-more-preserved
loop-more-preserved g c =
    let n = g.D.Nor in
    let row = c.args.row.now in
    let b = c.loop-more.invariant in
    let sized : (flash : List ℕ) → n.bytes c.args.device.now ≡ Some flash → row.offset + row.size ≤
    length flash =
    λ flash told. omega (arith, g.met.D.Nor.sized c.args.device.now flash told, c.requires.inside)
    in
    let got : length (take c.loop-more.more c.loop-more.buffer) ≡ c.loop-more.more =
    omega (arith, length-take c.loop-more.more c.loop-more.buffer, c.loop-more-test.array_long) in
    record {
      on = search rules;
      within = omega arith;
      rest = omega arith;
      fits = omega arith;
      read = told_more (n.bytes c.args.device.now) (n.bytes c.loop-more.device) c.loop-more.verifier
          c.read_piece.new.verifier row c.loop-more.done c.loop-more.more _
          c.min-more-in-loop-more.result
          c.wanted-in-loop-more.result b.same.bytes_same got (omega arith) sized b.read
          c.in_ok-read_piece.ensures.read c.wanted-in-loop-more.ensures.exact
          (c.min-more-in-loop-more.ensures ∙ ap (λ m. min m 4096) c.min-in-loop-more.ensures);
      same = search rules;
      setting = search rules;
      faults_same = search rules;
    }

-- what was read to its end
pub returns-clause-verified : goal.returns-clause-verified
returns-clause-verified g c =
    let n = g.D.Nor in
    let row = c.args.row.now in
    let none : c.loop-more.more ≡ 0 = omega arith in
    told_last (n.bytes c.args.device.now) c.loop-more.verifier row c.loop-more.done c.finish.result
    c.ok.result c.ok.ensures.value
    (subst (λ m. IfSome (n.bytes c.args.device.now)
    (λ flash. Between c.loop-more.verifier (slot_in flash row) c.loop-more.done m))
    none c.loop-more.invariant.read) c.finish.ensures.whole c.finish.ensures.ok c.finish.ensures.err
