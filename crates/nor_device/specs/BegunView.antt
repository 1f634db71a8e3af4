-- How the place of the step that has begun shows in a contract.
use Rattle.std.specs.Prelude.{ℕ, List, Option, None, Some}
use Rattle.nor_device.specs.declared.step.Step.{Step}
use Rattle.nor_device.specs.declared.step.Step.TheVariants.{Erase, Program, Block}
use Rattle.nor_device.specs.declared.begun_step.Kind.{Kind}
use Rattle.nor_device.specs.declared.begun_step.Kind.TheVariants as kinds
use Rattle.nor_device.specs.declared.begun_step.BegunStep.TheInside.{Inside}

-- the step of this kind, with its number and its data
abbrev pub step_of : Kind → ℕ → List ℕ → Option Step
step_of kinds.Nothing number page = None
step_of kinds.Erase number page = Some (Erase number)
step_of kinds.Program number page = Some (Program number page)
step_of kinds.Block number page = Some (Block number)

-- the step that stands there, or none
abbrev pub begun_of : Inside → Option Step
begun_of d = step_of d.kind d.number d.page
