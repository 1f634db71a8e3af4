-- Fuses in memory: their bits, and which calls fail.
use Rattle.std.specs.Prelude.{ℕ, nat_eq, Bool, if◌then◌else◌, List}
use Rattle.std.specs.List.{list_any}
use Rattle.secure_fuse.specs.Bits.{burned}
use Rattle.secure_fuse.specs.Fuses.{one_more}

-- the bits; which calls of `burn` fail, by their numbers from 1; how many came; and how many of them failed
pub record Ram : Type 0 where
  pub bits : ℕ
  pub failing : List ℕ
  pub made : ℕ
  pub failed : ℕ

-- whether the next call is one that fails
abbrev pub fails_next : Ram → Bool
fails_next ram = list_any (λ number. nat_eq number (one_more ram.made)) ram.failing

-- the fuses after the next call, which is of this bit
abbrev pub after_burn : Ram → ℕ → Ram
after_burn ram bit = record {
  bits = if fails_next ram then ram.bits else burned ram.bits bit;
  failing = ram.failing;
  made = one_more ram.made;
  failed = if fails_next ram then one_more ram.failed else ram.failed;
}
