-- Which sectors of a flash are marked as erased, and how its bytes read by that.
use Rattle.std.specs.Prelude.{◌≡◌, ◌<◌, ℕ, ◌+◌, ◌*◌, ◌/◌, ◌%◌, ◌==◌, Bool, true, false, ◌&&◌, nat_le, nat_lt, if◌then◌else◌, List, length, map, replicate, slice_index, slice_index_or, count_by}
use Rattle.std.specs.List.{range_with_len}
use Rattle.std.specs.Int.{bit_at}
use Rattle.nor_device.specs.declared.step.Step.{Step}
use Rattle.nor_device.specs.declared.step.Step.TheVariants.{Erase, Program, Block}
use Rattle.nor_device.specs.Flash.{start_of, end_of}

-- no sector of 32 MiB is marked
unfoldable pub no_marks : List Bool
no_marks = replicate 8192 false

-- the sector is marked
abbrev pub is_marked : List Bool → ℕ → Bool
is_marked marks sector = slice_index_or marks sector false

-- how many sectors are marked
unfoldable pub marked_count : List Bool → ℕ
marked_count marks = count_by (λ mark. mark) marks

-- the sectors from the first up to the last, without it, are marked, or none of them is
unfoldable pub marked_as : Bool → ℕ → ℕ → List Bool → List Bool
marked_as mark first last marks =
    map
    (λ sector. if nat_le first sector && nat_lt sector last then mark else is_marked marks sector)
    (range_with_len 0 (length marks))

-- an erase marks, and a program takes marks away
abbrev pub leaves_marked : Step → Bool
leaves_marked (Erase sector) = true
leaves_marked (Program at page) = false
leaves_marked (Block block) = true

-- the marks after the step: those of the sectors that its range meets have changed
abbrev pub marks_after : Step → List Bool → List Bool
marks_after step marks =
    marked_as (leaves_marked step) (start_of step / 4096) ((end_of step + 4095) / 4096) marks

-- bytes from the address on, where those in a sector of the test are 0xFF
unfoldable pub covered : (ℕ → Bool) → ℕ → List ℕ → List ℕ
covered test at bytes =
    map (λ k. if test ((at + k) / 4096) then 255 else slice_index bytes k)
    (range_with_len 0 (length bytes))

-- a flash as it reads: 0xFF in each marked sector, and else what is stored
abbrev pub as_read : List Bool → List ℕ → List ℕ
as_read marks stored = covered (is_marked marks) 0 stored

-- each byte of a marked sector is 0xFF
abbrev pub AreErased : List Bool → List ℕ → Type 0
AreErased marks flash =
    (i : ℕ) → i < length flash → is_marked marks (i / 4096) ≡ true → slice_index flash i ≡ 255

-- the flags of the words, from the lowest bit of the first word on
unfoldable pub flags_of : List ℕ → List Bool
flags_of words =
    map (λ n. bit_at (slice_index words (n / 64)) (n % 64) == 1)
    (range_with_len 0 (64 * length words))
