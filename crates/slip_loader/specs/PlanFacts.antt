-- What holds of each plan.
use Rattle.std.specs.Prelude.{ℕ, List, length}
use Rattle.slip_loader.specs.declared.plan.Plan.{Plan}
use Rattle.slip_loader.specs.Plans.{AreBegun, LiesIn}

-- a plan stays in a flash of this size: its work, with this block, and what is open behind it
pub record IsPlanIn (size : ℕ) (block : List ℕ) (plan : Plan) : Type 0 where
  pub work : LiesIn size (length block) plan.work
  pub begun : AreBegun size plan.begun
