-- How many bytes a flash may have.
use Rattle.std.specs.Prelude.{◌≡◌, ◌⊎◌, ℕ, ◌==◌, Bool, ◌||◌}

-- the bytes that a flash may have: 1, 2, 4, 8, 16 or 32 MiB
abbrev pub IsFlashSize : ℕ → Type 0
IsFlashSize n = (n ≡ 1048576) ⊎ (n ≡ 2097152) ⊎ (n ≡ 4194304) ⊎ (n ≡ 8388608) ⊎ (n ≡ 16777216)
    ⊎ (n ≡ 33554432)

-- whether they are as many
unfoldable pub is_flash_size : ℕ → Bool
is_flash_size n =
    (n == 1048576) || (n == 2097152) || (n == 4194304) || (n == 8388608) || (n == 16777216)
    || (n == 33554432)
