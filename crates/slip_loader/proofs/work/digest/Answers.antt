use Rattle.std.proofs.Common.{◌≡◌, length, take, arith, rules}
use Rattle.std.proofs.lemmas.List.{length-take}
use Rattle.slip_loader.proofs.HashLemmas.{hashed_more}
use Rattle.slip_loader.proofs.work.digest.Goals as goal

-- one piece more
pub loop-done-preserved : goal.loop-done-preserved
loop-done-preserved g c =
    let n = g.D.Nor in
    let inv = c.loop-done.invariant in
    let more = c.min-more.result in
    let got : length (take more c.loop-done.buffer) ≡ more =
    omega (arith, length-take more c.loop-done.buffer, c.min-more.array_long) in
    record {
      within = omega arith;
      hashed = hashed_more (n.bytes c.args.device.now) (n.bytes c.loop-done.device)
          c.loop-done.hasher c.read_piece.new.hasher c.args.at c.loop-done.done more _
          inv.same.bytes_same got inv.hashed c.in_ok-read_piece.ensures.read;
      same = search rules;
      setting = search rules;
      faults_same = search rules;
    }
