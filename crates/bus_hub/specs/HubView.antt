-- How the fields of the bus show in a contract.
use Rattle.std.specs.Prelude.{◌≡◌, ℕ, ◌<◌, List, Bool, false, Option, Some, None}
use Rattle.nor_device.specs.declared.step.Step.{Step}
use Rattle.bus_hub.specs.declared.did.Running.{Running}
use Rattle.bus_hub.specs.Room.{HasRoom}
use Rattle.bus_hub.specs.Hub.{Hub, IsTold, step_of, owed}

-- the step that runs is one that its core was allowed
abbrev pub IsGranted : {K P : Type 0} → (K → ℕ → P) → (P → Step → Type 0) → K → Option Running
    → Type 0
IsGranted part grants duty None = Unit {0}
IsGranted part grants duty (Some run) = (run.core < 2) × grants (part duty run.core) run.step

-- while a step runs the power is on
abbrev pub IsPowered : Bool → Option Running → Type 0
IsPowered off None = Unit {0}
IsPowered off (Some run) = off ≡ false

-- what holds of every bus: the device makes the step that is noted, and tells its bytes; the step
-- was allowed; and the journal has room for its end
pub record IsHub {D K P : Type 0} (bytes : D → Option (List ℕ)) (running : D → Option Step)
    (off : D → Bool) (part : K → ℕ → P) (grants : P → Step → Type 0) (h : Hub D K) : Type 0 where
  pub runs : running h.dev ≡ step_of h.running
  pub told : IsTold (bytes h.dev)
  pub powered : IsPowered (off h.dev) h.running
  pub granted : IsGranted part grants h.duty h.running
  pub room : HasRoom h.journal (owed h.running) 0
