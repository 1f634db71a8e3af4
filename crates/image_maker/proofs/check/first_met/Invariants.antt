use Rattle.std.proofs.Common.{◌≡◌, drop}
use Rattle.image_maker.specs.Parts.{all_parts}
use Rattle.image_maker.specs.Refused.{first_met, met_by_first}
use Rattle.image_maker.proofs.check.first_met.Given as goal

-- the parts so far don't meet the first one
abbrev pub invariant-loop-i : goal.invariant-loop-i
invariant-loop-i l =
    first_met l.load l.length l.i (drop l.i (all_parts l.lines l.files))
    ≡ met_by_first l.first (drop l.first (all_parts l.lines l.files))
