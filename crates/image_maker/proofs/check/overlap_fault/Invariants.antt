use Rattle.std.proofs.Common.{◌≡◌, drop}
use Rattle.image_maker.specs.Parts.{all_parts}
use Rattle.image_maker.specs.Refused.{overlap_fault}
use Rattle.image_maker.proofs.check.overlap_fault.Given as goal

-- the parts so far have no fault
abbrev pub invariant-loop-i : goal.invariant-loop-i
invariant-loop-i l =
    overlap_fault l.i (drop l.i (all_parts l.lines l.files))
    ≡ overlap_fault 0 (all_parts l.lines l.files)
