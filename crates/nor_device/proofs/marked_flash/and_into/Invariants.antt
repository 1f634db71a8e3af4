use Rattle.std.proofs.Common.{◌≡◌, ◌++◌, take, drop}
use Rattle.nor_device.specs.Flash.{anded}
use Rattle.nor_device.proofs.marked_flash.and_into.Given as goal

abbrev pub invariant-loop-i : goal.invariant-loop-i
invariant-loop-i l =
    anded l.initial.part l.data ≡ take l.i l.part ++ anded (drop l.i l.part) (drop l.i l.data)
