-- Burnt bits: a word of 32 bits that only rise, its level, and the word with its lowest clear bits burnt.
use Rattle.std.specs.Prelude.{◌≡◌, ◌⊎◌, ◌≤◌, ℕ, zero, suc, ◌+◌, ◌-◌, ◌*◌, ◌/◌, ◌%◌, ◌^◌, ◌==◌, max, if◌then◌else◌, List, [], ◌∷◌, bit_or, count_ones}
use Rattle.std.specs.Int.{bit_at}

-- the word with this bit burnt
abbrev pub burned : ℕ → ℕ → ℕ
burned bits bit = bit_or bits (2 ^ bit)

-- how many bits are burnt
abbrev pub level_of : ℕ → ℕ
level_of bits = count_ones bits

-- each bit that is burnt in the first word is burnt in the second
abbrev pub Keeps : ℕ → ℕ → Type 0
Keeps old new = (bit : ℕ) → bit_at old bit ≡ 1 → bit_at new bit ≡ 1

-- what a burn leaves that fails, or in which the power is lost: the word as before, or with that bit burnt
abbrev pub MayBeLeft : ℕ → ℕ → ℕ → Type 0
MayBeLeft bits bit left = (left ≡ bits) ⊎ (left ≡ burned bits bit)

-- what is left where the power is lost at some moment of these burns, each of which may also fail
abbrev pub MayBeLeftOf : ℕ → List ℕ → ℕ → Type 0
MayBeLeftOf bits [] left = left ≡ bits
MayBeLeftOf bits (bit ∷ burns) left =
    (left ≡ bits) ⊎ ((next : ℕ) × MayBeLeft bits bit next × MayBeLeftOf next burns left)

-- the word with so many more of its lowest clear bits burnt, of this many places
unfoldable pub filled : ℕ → ℕ → ℕ → ℕ
filled zero more bits = bits
filled (suc places) zero bits = bits
filled (suc places) (suc more) bits =
    1 + 2 * filled places (if bits % 2 == 1 then suc more else more) (bits / 2)

-- the word with as many of its lowest clear bits burnt as the level lacks
abbrev pub raised : ℕ → ℕ → ℕ
raised bits want = filled 32 (want - level_of bits) bits

-- a word on the way to the level that is wanted: no bit is lost, the level does not fall nor pass the wanted one,
-- and the bits that were burnt are the lowest clear ones
pub record IsStage (old want left : ℕ) : Type 0 where
  pub kept : Keeps old left
  pub rises : level_of old ≤ level_of left
  pub level : level_of left ≤ max (level_of old) want
  pub lowest : left ≡ raised old (level_of left)
