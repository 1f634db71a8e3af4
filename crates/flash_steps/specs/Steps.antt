-- The steps of a write and of an erase in a flash.
use Rattle.std.specs.Prelude.{◌≡◌, ◌≤◌, ◌<◌, ℕ, zero, suc, ◌+◌, ◌-◌, ◌/◌, ◌%◌, ◌==◌, if◌then◌else◌, List, [], ◌∷◌, ◌++◌, length, take, drop, slice_index}
use Rattle.nor_device.specs.declared.step.Step.{Step}
use Rattle.nor_device.specs.declared.step.Step.TheVariants.{Erase, Program, Block}
use Rattle.nor_device.specs.Flash.{end_of, start_of}

-- how many bytes there are from an address to the end of its page
abbrev pub room_at : ℕ → ℕ
room_at at = 256 - at % 256

-- in how many pages so many bytes from an address on lie
unfoldable pub pages_in : ℕ → ℕ → ℕ
pages_in at len = if len == 0 then 0 else (at % 256 + len + 255) / 256

-- bytes from an address on as programs in so many pages, one in each
unfoldable pub programs : ℕ → ℕ → List ℕ → List Step
programs zero at bytes = []
programs (suc n) at bytes =
    Program at (take (room_at at) bytes) ∷ programs n (at + room_at at) (drop (room_at at) bytes)

-- the steps of a write of bytes from an address on: programs, ascending, cut at the ends of pages
unfoldable pub write_steps : ℕ → List ℕ → List Step
write_steps at bytes = programs (pages_in at (length bytes)) at bytes

-- erases of so many sectors from this one on
unfoldable pub erases : ℕ → ℕ → List Step
erases zero sector = []
erases (suc n) sector = Erase sector ∷ erases n (sector + 1)

-- the steps of an erase of so many bytes from an address on, both multiples of 4096: erases of the
-- sectors, ascending
unfoldable pub erase_steps : ℕ → ℕ → List Step
erase_steps at len = erases (len / 4096) (at / 4096)

-- each step begins where the one before it ends, the first at one address, and the last ends at
-- another
abbrev pub FollowOn : ℕ → ℕ → List Step → Type 0
FollowOn from to [] = from ≡ to
FollowOn from to (step ∷ steps) = (start_of step ≡ from) × FollowOn (end_of step) to steps

-- a step lies between two addresses
abbrev pub LiesIn : ℕ → ℕ → Step → Type 0
LiesIn from to step = (from ≤ start_of step) × (end_of step ≤ to)

-- a step is a program of at least one byte in one page
abbrev pub IsPageProgram : Step → Type 0
IsPageProgram (Erase sector) = ⊥
IsPageProgram (Program at page) = (1 ≤ length page) × (at % 256 + length page ≤ 256)
IsPageProgram (Block block) = ⊥

-- a flash with these bytes from an address on, and all else as before
abbrev pub with_part : ℕ → List ℕ → List ℕ → List ℕ
with_part at part flash = take at flash ++ part ++ drop (at + length part) flash

-- so many bytes from an address on are erased
abbrev pub IsErasedAt : ℕ → ℕ → List ℕ → Type 0
IsErasedAt at len flash = (i : ℕ) → at ≤ i → i < at + len → slice_index flash i ≡ 255
