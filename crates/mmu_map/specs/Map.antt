-- The map from the pages of both spaces to flash pages, and what the calls make of it.
use Rattle.std.specs.Prelude.{◌≡◌, ℕ, ◌+◌, ◌*◌, ◌%◌, ◌<◌, List, length, replicate, Option, Some, None, Result, Ok, Err}
use Rattle.image_layout.specs.declared.space.Space.{Space}
use Rattle.image_layout.specs.declared.space.Space.TheVariants.{Data, Code}
use Rattle.mmu_map.specs.declared.page_use.PageUse.{PageUse}
use Rattle.mmu_map.specs.declared.page_use.PageUse.TheVariants.{Free, Fixed, First, Later}
use Rattle.mmu_map.specs.declared.place.Place.{Place}
use Rattle.mmu_map.specs.declared.runs.NoPages.{NoPages}
use Rattle.mmu_map.specs.declared.runs.NotMapped.{NotMapped}
use Rattle.mmu_map.specs.Place.{address_of, pages_in, place_of}
use Rattle.mmu_map.specs.Runs.{use_at, AreFree, AreWhole, IsLowest, IsLongest, fixed_run, mapped_run, with_run, IsRunAt, run_length, flash_page_of}

-- what the pages of each space are used for, in order
pub record Map : Type 0 where
  pub data_uses : List PageUse
  pub code_uses : List PageUse

-- no page is mapped
abbrev pub empty : Map
empty = record { data_uses = replicate 64 Free; code_uses = replicate 51 Free }

-- what the pages of a space are used for
abbrev pub uses_in : Map → Space → List PageUse
uses_in m Data = m.data_uses
uses_in m Code = m.code_uses

-- the map with other uses in a space
abbrev pub with_uses : Map → Space → List PageUse → Map
with_uses m Data uses = record m { data_uses = uses }
with_uses m Code uses = record m { code_uses = uses }

-- what the page at a place is used for; nothing is mapped outside the spaces
abbrev pub use_in : Map → Option Place → PageUse
use_in m None = Free
use_in m (Some place) = use_at (uses_in m place.space) place.page

-- an address of a flash page
abbrev pub flash_address : ℕ → Option ℕ → Option ℕ
flash_address at None = None
flash_address at (Some flash_page) = Some (flash_page * 65536 + at % 65536)

-- the flash address behind an address, where it is mapped
abbrev pub translated : Map → ℕ → Option ℕ
translated m at = flash_address at (flash_page_of (use_in m (place_of at)))

-- a page that is used so stays as it is for good
abbrev pub IsForGood : PageUse → Type 0
IsForGood Free = ⊥
IsForGood (Fixed flash_page) = Unit {0}
IsForGood (First flash_page n) = ⊥
IsForGood (Later flash_page) = ⊥

-- the address lies in a page that was fixed
abbrev pub IsFixedAt : Map → ℕ → Type 0
IsFixedAt m at = IsForGood (use_in m (place_of at))

-- the map has all pages of both spaces, and each run that was mapped lies inside its space and
-- meets no other one
pub record IsWhole (m : Map) : Type 0 where
  pub many : (space : Space) → length (uses_in m space) ≡ pages_in space
  pub whole : (space : Space) → AreWhole (uses_in m space)

-- so many pages from the one at the place on are there, and free
abbrev pub AreFreeFrom : Map → Option Place → ℕ → Type 0
AreFreeFrom m None n = ⊥
AreFreeFrom m (Some place) n = AreFree (uses_in m place.space) place.page n

-- a page begins at the address, and so many from there on are there, and free
pub record IsFreeRun (m : Map) (at n : ℕ) : Type 0 where
  pub page_start : at % 65536 ≡ 0
  pub free : AreFreeFrom m (place_of at) n

-- the map with a run in place of the pages from this place on
abbrev pub with_run_at : Map → Option Place → List PageUse → Map
with_run_at m None run = m
with_run_at m (Some place) run =
    with_uses m place.space (with_run (uses_in m place.space) place.page run)

-- the map once these flash pages are fixed at the address
abbrev pub fixed : Map → ℕ → ℕ → ℕ → Map
fixed m at flash_page n = with_run_at m (place_of at) (fixed_run flash_page n)

-- the map once they were mapped there together
abbrev pub mapped : Map → ℕ → ℕ → ℕ → Map
mapped m at flash_page n = with_run_at m (place_of at) (mapped_run flash_page n)

-- the map once so many pages from the address on are free
abbrev pub freed : Map → ℕ → ℕ → Map
freed m at n = with_run_at m (place_of at) (replicate n Free)

-- a run of so many pages that were mapped together begins at the place
abbrev pub IsRunIn : Map → Option Place → ℕ → Type 0
IsRunIn m None n = ⊥
IsRunIn m (Some place) n = IsRunAt (uses_in m place.space) place.page n

-- a run of so many pages that were mapped together begins at the address
pub record IsRun (m : Map) (at n : ℕ) : Type 0 where
  pub page_start : at % 65536 ≡ 0
  pub run : IsRunIn m (place_of at) n

-- the answer of `map`: the address of the lowest run of so many free pages, and that there is none,
-- with the longest
abbrev pub IsMapAnswer : Map → ℕ → Space → Result ℕ NoPages → Type 0
IsMapAnswer m n space (Ok at) =
    (page : ℕ) × (at ≡ address_of space page) × IsLowest (uses_in m space) n page
IsMapAnswer m n space (Err e) = (e.longest < n) × IsLongest (uses_in m space) e.longest

-- the map after that answer
abbrev pub after_map : Map → ℕ → ℕ → Result ℕ NoPages → Map
after_map m flash_page n (Ok at) = mapped m at flash_page n
after_map m flash_page n (Err e) = m

-- the answer of `unmap`: whether a run that was mapped begins at the address
abbrev pub IsUnmapAnswer : Map → ℕ → Result (Unit {0}) NotMapped → Type 0
IsUnmapAnswer m at (Ok _) = (n : ℕ) × IsRun m at n
IsUnmapAnswer m at (Err _) = (n : ℕ) → ¬ IsRun m at n

-- the map after that answer
abbrev pub after_unmap : Map → ℕ → Result (Unit {0}) NotMapped → Map
after_unmap m at (Ok _) = freed m at (run_length (use_in m (place_of at)))
after_unmap m at (Err _) = m
