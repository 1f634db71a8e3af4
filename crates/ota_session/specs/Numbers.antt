-- What tells which step of an update has a number.
use Rattle.std.specs.Prelude.{◌≡◌, ℕ, ◌+◌, ◌*◌, ◌/◌, List, [], ◌∷◌, max}

-- where the page with this number begins, of those in which bytes from an address on are
abbrev pub page_from : ℕ → ℕ → ℕ
page_from at number = max ((at / 256 + number) * 256) at

-- the first byte is that of an image
abbrev pub IsMarked : List ℕ → Type 0
IsMarked [] = ⊥
IsMarked (byte ∷ bytes) = byte ≡ 0xE9
