-- How the fields of the device in memory show in a contract.
use Rattle.std.specs.Prelude.{◌≡◌, ℕ, ◌≤◌, List, length, Some}
use Rattle.nor_device.specs.declared.step.Step.{Step}
use Rattle.nor_device.specs.declared.ram.RamNor.TheInside.{Inside}
use Rattle.nor_device.specs.Flash.{end_of}
use Rattle.nor_device.specs.Ram.{Ram}

-- the fields, with the flash as it reads
abbrev pub ram_of : Inside → Ram
ram_of d = record {
  bytes = d.flash.bytes;
  marks = d.flash.marks;
  polls = d.polls;
  running = d.running;
  left = d.left;
  steps = d.steps;
}

-- the running step lies inside
pub record IsRam (d : Inside) : Type 0 where
  pub inside : (step : Step) → d.running ≡ Some step → end_of step ≤ length d.flash.bytes

-- as many bytes as the size says
pub ram_sized : (d : Ram) (flash : List ℕ) → Some d.bytes ≡ Some flash
    → length flash ≡ length d.bytes
ram_sized d flash is = cc
