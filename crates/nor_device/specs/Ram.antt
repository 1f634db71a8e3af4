-- The device in memory, and what its calls do to it.
use Rattle.std.specs.Prelude.{ℕ, ◌-◌, ◌==◌, Bool, if◌then◌else◌, List, Option, None, Some}
use Rattle.nor_device.specs.declared.step.Step.{Step}
use Rattle.nor_device.specs.declared.nor.Ready.{Ready}
use Rattle.nor_device.specs.declared.nor.Ready.TheVariants as answers
use Rattle.nor_device.specs.Flash.{applied}
use Rattle.nor_device.specs.Marks.{marks_after}
use Rattle.nor_device.specs.Nor.{one_more}

-- what a contract sees of it
pub record Ram : Type 0 where
  -- the bytes as they stand before the running step
  pub bytes : List ℕ
  -- how often each step answers Busy
  pub polls : ℕ
  pub running : Option Step
  -- how often the running step will still answer Busy
  pub left : ℕ
  pub steps : ℕ
  -- for each sector, whether it is marked as erased
  pub marks : List Bool

-- a step has begun and will answer Busy as often as each does
abbrev pub begun : Ram → Step → Ram
begun ram step = record ram { running = Some step; left = ram.polls; steps = one_more ram.steps }

-- the bytes after the step, where one runs
abbrev pub ended_bytes : Option Step → List ℕ → List ℕ
ended_bytes None bytes = bytes
ended_bytes (Some step) bytes = applied bytes step

-- the marks after the step, where one runs
abbrev pub ended_marks : Option Step → List Bool → List Bool
ended_marks None marks = marks
ended_marks (Some step) marks = marks_after step marks

-- the step has ended whole
abbrev pub ended : Ram → Ram
ended ram =
    record ram { bytes = ended_bytes ram.running ram.bytes; marks = ended_marks ram.running ram.marks; running = None }

-- a poll counts down, and makes the step when nothing is left
abbrev pub polled : Ram → Ram
polled ram = if ram.left == 0 then ended ram else record ram { left = ram.left - 1 }

-- it answers Ready exactly when nothing is left
abbrev pub poll_answer : Ram → Ready
poll_answer ram = if ram.left == 0 then answers.Ready else answers.Busy
