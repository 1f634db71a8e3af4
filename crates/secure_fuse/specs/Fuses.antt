-- What the calls of fuses say of them.
use Rattle.std.specs.Prelude.{◌≡◌, ◌⊎◌, ◌≤◌, ℕ, zero, suc, ◌+◌, ◌-◌, ◌^◌, min, Result, OnOk, OnErr}

-- the next number of a count that stops at the end of its 64 bits
abbrev pub one_more : ℕ → ℕ
one_more count = min (count + 1) (2 ^ 64 - 1)

-- the count after so many more
abbrev pub more : ℕ → ℕ → ℕ
more zero count = count
more (suc n) count = one_more (more n count)

-- the count rose, or it stands at the end of its 64 bits
abbrev pub Rose : ℕ → ℕ → Type 0
Rose before now = one_more before ≤ now

-- why the answer came: a refusal only where the count of faults rose, which never falls
pub record HasCause {T E : Type 0} (before now : ℕ) (result : Result T E) : Type 0 where
  pub later : before ≤ now
  pub ok : OnOk result (now ≡ before)
  pub failed : OnErr result (Rose before now)

-- the calls that were made: one a level; or one more, which failed and left its bit clear
abbrev pub IsCalled : ℕ → ℕ → ℕ → Type 0
IsCalled rise before now = (now ≡ more rise before) ⊎ (now ≡ more (suc rise) before)

module _ {F : Type 0} (left : F → ℕ → Type 0) where
  -- whatever bits a loss of power may have left by now, it may have left before, or they are allowed
  abbrev pub LeavesOnly : F → F → (ℕ → Type 0) → Type 0
  LeavesOnly old new allowed = (bits : ℕ) → left new bits → left old bits ⊎ allowed bits
