-- A device whose power stays on, and that doesn't fail.
use Rattle.std.specs.Prelude.{◌≡◌, ℕ}
use Rattle.nor_device.specs.declared.nor.StepEnd.{StepEnd}
use Rattle.nor_device.specs.declared.nor.StepEnd.TheVariants.{Done}
use Rattle.nor_device.specs.declared.nor.NorFault.{NorFault}

-- a device of this setting makes each step whole, and refuses no call
pub record IsSure {S : Type 0} (may_end : S → ℕ → StepEnd → Type 0)
    (may_refuse : S → ℕ → NorFault → Type 0) (setting : S) : Type 0 where
  pub whole : (n : ℕ) (end : StepEnd) → may_end setting n end → end ≡ Done
  pub answers : (n : ℕ) (why : NorFault) → may_refuse setting n why → ⊥
