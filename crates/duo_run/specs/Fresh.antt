-- A core that was just opened.
use Rattle.std.specs.Prelude.{◌≡◌, ℕ, length}
use Rattle.atomic_table.specs.Seated.{TableId}
use Rattle.core_state.specs.Registers.{reset}
use Rattle.bus_hub.specs.declared.did.Base.{Base}
use Rattle.bus_hub.specs.declared.did.Did.{Did}
use Rattle.bus_hub.specs.declared.journal.Room.{Room}
use Rattle.cache_gate.specs.Own.{Own, OnBase, HasRoom}

-- the core is one of these words and has the registers at reset, this room, and a flash of so many
-- bytes
pub record IsFreshIn {S K : Type 0} (words : TableId) (c : ℕ) (room : Room) (size : ℕ)
    (o : Own (Base S K) Did) : Type 0 where
  pub table : o.table ≡ words
  pub core : o.core ≡ c
  pub regs : o.regs ≡ reset
  pub room_is : HasRoom o.base o.core o.share room.entries room.bytes
  pub size_is : OnBase o.base (λ b. length b.flash ≡ size)
