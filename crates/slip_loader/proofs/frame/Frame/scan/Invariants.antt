use Rattle.std.proofs.Common.{◌≡◌, ◌+◌, [], drop, take}
use Rattle.slip_loader.specs.Frames.{behind_after, requests_from, taken_from}
use Rattle.slip_loader.proofs.frame.Frame.scan.Given as goal

-- no request has ended so far
abbrev pub invariant-loop-i : goal.invariant-loop-i
invariant-loop-i l = record {
  taken : taken_from l.fn.self l.piece ≡ l.i + taken_from l.self (drop l.i l.piece);
  next : l.self ≡ behind_after l.fn.self (take l.i l.piece);
  none : requests_from l.fn.self (take l.i l.piece) ≡ [];
}
