-- What a step leaves that is cut short, by a loss of power or by a fault of the device.
use Rattle.std.specs.Prelude.{◌≡◌, ◌⊎◌, ℕ, ◌+◌, ◌-◌, ◌<◌, ◌≤◌, List, length, slice_index, bit_and, bit_or}
use Rattle.nor_device.specs.declared.step.Step.{Step}
use Rattle.nor_device.specs.declared.step.Step.TheVariants.{Erase, Program, Block}
use Rattle.nor_device.specs.Flash.{start_of, end_of}

-- a program that was cut short has set no bit and has left each bit that the data keeps
pub record IsTornProgram (data_byte old new : ℕ) : Type 0 where
  pub sets_none : bit_or new old ≡ old
  pub keeps : bit_and (bit_and new old) data_byte ≡ bit_and old data_byte

-- what may stand at the k-th byte of the range: any byte in an erase, and in a program a torn byte
abbrev pub IsTornByte : Step → ℕ → ℕ → ℕ → Type 0
IsTornByte (Erase sector) k old new = old < 256 → new < 256
IsTornByte (Program at page) k old new = IsTornProgram (slice_index page k) old new
IsTornByte (Block block) k old new = old < 256 → new < 256

-- what may stand at an address: the old byte outside the step's range, and in it a torn byte
pub record TornAt (step : Step) (i old new : ℕ) : Type 0 where
  pub outside : (i < start_of step) ⊎ (end_of step ≤ i) → new ≡ old
  pub inside : start_of step ≤ i → i < end_of step → IsTornByte step (i - start_of step) old new

-- the second flash is what the step may leave of the first where it is cut short
pub record Torn (old : List ℕ) (step : Step) (new : List ℕ) : Type 0 where
  pub same_length : length new ≡ length old
  pub byte : (i : ℕ) → i < length old → TornAt step i (slice_index old i) (slice_index new i)

-- the second flash is what an erase of as many bytes from the address on may leave of the first
pub record IsTornErase (at len : ℕ) (old new : List ℕ) : Type 0 where
  pub same_length : length new ≡ length old
  pub outside : (i : ℕ) → i < length old → (i < at) ⊎ (at + len ≤ i)
      → slice_index new i ≡ slice_index old i
  pub inside : (i : ℕ) → i < length old → at ≤ i → i < at + len
      → slice_index old i < 256 → slice_index new i < 256
