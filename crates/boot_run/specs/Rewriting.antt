-- The steps that rewrite an entry of the OTA data.
use Rattle.std.specs.Prelude.{◌≡◌, ℕ, ◌+◌, ◌*◌, ◌/◌, ◌%◌, ◌<◌, ◌≤◌, ◌^◌, List, [], ◌∷◌, ◌++◌, length}
use Rattle.nor_device.specs.declared.step.Step.{Step}
use Rattle.nor_device.specs.declared.step.Step.TheVariants.{Erase, Program}
use Rattle.otadata.specs.Entry.{entry_bytes}
use Rattle.rollback.specs.declared.rewrite.Rewrite.{Rewrite}

-- the sector is erased, and then the 32 bytes of the entry are programmed at once; the OTA data
-- begin at this place
abbrev pub rewrite : ℕ → Rewrite → List Step
rewrite otadata write =
    Erase (otadata / 4096 + write.sector)
    ∷ Program (otadata + 4096 * write.sector) (entry_bytes write.entry) ∷ []

-- the rewrites one after the other
abbrev pub rewrites : ℕ → List Rewrite → List Step
rewrites otadata [] = []
rewrites otadata (write ∷ writes) = rewrite otadata write ++ rewrites otadata writes

-- each of the rewrites is of one of the two sectors, and its label is no longer than an entry's
abbrev pub AreShort : List Rewrite → Type 0
AreShort [] = Unit {0}
AreShort (write ∷ writes) = ((write.sector < 2) × (length write.entry.label ≤ 20)) × AreShort writes

-- the two sectors of the OTA data lie in a device of this size, at a sector, and each address fits
-- 32 bits
pub record AreSectors (otadata size : ℕ) : Type 0 where
  pub aligned : otadata % 4096 ≡ 0
  pub inside : otadata + 8192 ≤ size
  pub small : size < 2 ^ 32
