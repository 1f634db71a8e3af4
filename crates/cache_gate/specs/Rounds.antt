-- Callers that go by rounds: what a round spends of a core's room, and what is left for those to come.
use Rattle.std.specs.Prelude.{◌≡◌, ℕ, ◌+◌, ◌-◌, ◌*◌}
use Rattle.atomic_table.specs.Seated.{TableId}
use Rattle.bus_hub.specs.declared.did.Did.{Did}
use Rattle.bus_hub.specs.declared.did.Base.{Base}
use Rattle.cache_gate.specs.Own.{Own, HasRoom, IsInside}

-- the same core, with at most so many entries and bytes less of its room
pub record Spends {S K : Type 0} (entries bytes : ℕ) (o o' : Own (Base S K) Did) : Type 0 where
  pub table : o'.table ≡ o.table
  pub core : o'.core ≡ o.core
  pub base : o'.base ≡ o.base
  pub room : (n m : ℕ) → HasRoom o.base o.core o.share (n + entries) (m + bytes)
      → HasRoom o'.base o'.core o'.share n m

-- the core is one of these words, and has room for so many rounds of so many entries and bytes; so
-- many bytes are in its flash
pub record IsReadyFor {S K : Type 0} (words : TableId) (c rounds entries bytes size : ℕ)
    (o : Own (Base S K) Did) : Type 0 where
  pub table : o.table ≡ words
  pub core : o.core ≡ c
  pub room : HasRoom o.base o.core o.share (rounds * entries) (rounds * bytes)
  pub inside : IsInside o.base size

-- after some of so many rounds: the same core, with room for those to come
pub record IsRound {S K : Type 0} (entries bytes times i : ℕ) (o o' : Own (Base S K) Did)
    : Type 0 where
  pub table : o'.table ≡ o.table
  pub core : o'.core ≡ o.core
  pub base : o'.base ≡ o.base
  pub room : HasRoom o'.base o'.core o'.share ((times - i) * entries) ((times - i) * bytes)
