-- What a loss of power may leave at a moment of the log.
use Rattle.std.specs.Prelude.{◌≡◌, ℕ, List, Option, Some, None}
use Rattle.nor_device.specs.Torn.{Torn}
use Rattle.bus_hub.specs.declared.did.Running.{Running}

-- the flash alone where no step runs, else each one that is torn by the step
abbrev pub MayBeLeft : List ℕ → Option Running → List ℕ → Type 0
MayBeLeft flash None left = left ≡ flash
MayBeLeft flash (Some run) left = Torn flash run.step left
