use Rattle.std.proofs.Common.{◌≡◌, drop}
use Rattle.image_maker.specs.Parts.{all_parts}
use Rattle.image_maker.specs.Refused.{parts_fault}
use Rattle.image_maker.proofs.check.parts_fault.Given as goal

-- the parts so far have no fault
abbrev pub invariant-loop-i : goal.invariant-loop-i
invariant-loop-i l =
    parts_fault l.i (drop l.i (all_parts l.lines l.files))
    ≡ parts_fault 0 (all_parts l.lines l.files)
