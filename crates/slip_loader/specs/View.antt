-- How a loader shows in a contract.
use Rattle.std.specs.Prelude.{Option}
use Rattle.slip_loader.specs.declared.fault.LoadNo.{LoadNo}
use Rattle.slip_loader.specs.Loads.{State}

-- what a contract sees of it: what it holds, and how an earlier call was refused
pub record Loading : Type 0 where
  pub state : State
  pub failed : Option LoadNo
