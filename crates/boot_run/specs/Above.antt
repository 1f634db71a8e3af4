-- What may boot above a level of anti-rollback: only what is whole and has a secure version that is no lower.
use Rattle.std.specs.Prelude.{◌≢◌, ℕ, nat_le, List, Option, Some, None, IfSome, ◌≡◌, if◌then◌else◌}
use Rattle.partition_table.specs.Layout.{Places}
use Rattle.rollback.specs.Boots.{boots_in}
use Rattle.image_verify.specs.Held.{held}
use Rattle.secure_fuse.specs.Secure.{secure_of}

-- the image, where its secure version is at least this level
abbrev pub no_older : ℕ → Option (List ℕ) → Option (List ℕ)
no_older level None = None
no_older level (Some image) = if nat_le level (secure_of image) then Some image else None

-- the image that the bytes of a slot hold, where it is no older than the level
abbrev pub held_above : ℕ → List ℕ → Option (List ℕ)
held_above level slot = no_older level (held slot)

-- where the device tells its bytes, an application boots of what it has now above one level, if one did above another
-- of what it had
abbrev pub StillBootsAbove : ℕ → ℕ → Places → Option (List ℕ) → Option (List ℕ) → Type 0
StillBootsAbove before now layout old new =
    IfSome old (λ flash. boots_in (held_above before) layout flash ≢ None
    → (left : List ℕ) × (new ≡ Some left) × (boots_in (held_above now) layout left ≢ None))
