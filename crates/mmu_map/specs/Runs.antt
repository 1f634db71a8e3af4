-- Runs of pages in one space, and the lowest one that is free.
use Rattle.std.specs.Prelude.{◌≡◌, ℕ, zero, suc, ◌+◌, ◌<◌, ◌≤◌, List, [], ◌∷◌, ◌++◌, length, take, drop, replicate, slice_index_or, Option, Some, None, Result, Ok, Err}
use Rattle.mmu_map.specs.declared.runs.NoPages.{NoPages}
use Rattle.mmu_map.specs.declared.runs.NotMapped.{NotMapped}
use Rattle.mmu_map.specs.declared.page_use.PageUse.{PageUse}
use Rattle.mmu_map.specs.declared.page_use.PageUse.TheVariants.{Free, Fixed, First, Later}

-- what the page of this number is used for; no page is behind the last one
abbrev pub use_at : List PageUse → ℕ → PageUse
use_at uses page = slice_index_or uses page Free

-- these many pages from this one on are there, and free
pub record AreFree (uses : List PageUse) (first n : ℕ) : Type 0 where
  pub within : first + n ≤ length uses
  pub free : (page : ℕ) → first ≤ page → page < first + n → use_at uses page ≡ Free

-- the lowest run of so many free pages begins here
pub record IsLowest (uses : List PageUse) (n first : ℕ) : Type 0 where
  pub free : AreFree uses first n
  pub lowest : (other : ℕ) → AreFree uses other n → first ≤ other

-- the longest run of free pages has so many
pub record IsLongest (uses : List PageUse) (longest : ℕ) : Type 0 where
  pub first : ℕ
  pub free : AreFree uses first longest
  pub longest_is : (other n : ℕ) → AreFree uses other n → n ≤ longest

-- how many free pages end with one that is used so, where so many end with the one before
abbrev pub extended : PageUse → ℕ → ℕ
extended Free run = run + 1
extended (Fixed flash_page) run = 0
extended (First flash_page n) run = 0
extended (Later flash_page) run = 0

-- so many pages with the flash pages from this one on, for good
abbrev pub fixed_run : ℕ → ℕ → List PageUse
fixed_run flash_page zero = []
fixed_run flash_page (suc n) = Fixed flash_page ∷ fixed_run (flash_page + 1) n

-- so many pages behind a first one, with the flash pages from this one on
abbrev pub later_run : ℕ → ℕ → List PageUse
later_run flash_page zero = []
later_run flash_page (suc n) = Later flash_page ∷ later_run (flash_page + 1) n

-- so many pages that are mapped together, with the flash pages from this one on
abbrev pub mapped_run : ℕ → ℕ → List PageUse
mapped_run flash_page zero = []
mapped_run flash_page (suc n) = First flash_page (suc n) ∷ later_run (flash_page + 1) n

-- the pages with a run of them replaced by one as long
abbrev pub with_run : List PageUse → ℕ → List PageUse → List PageUse
with_run uses first run = take first uses ++ run ++ drop (first + length run) uses

-- a run of so many pages that were mapped together begins at the page
abbrev pub IsRunAt : List PageUse → ℕ → ℕ → Type 0
IsRunAt uses page n = (flash_page : ℕ) × (use_at uses page ≡ First flash_page n)

-- each run of pages that were mapped together lies inside, and begins where no other one goes on
pub record AreWhole (uses : List PageUse) : Type 0 where
  pub within : (page n flash_page : ℕ) → use_at uses page ≡ First flash_page n
      → page + n ≤ length uses
  pub later : (page n flash_page other : ℕ) → use_at uses page ≡ First flash_page n
      → page < other → other < page + n → (f : ℕ) × (use_at uses other ≡ Later f)

-- the flash page behind a page that is used so
abbrev pub flash_page_of : PageUse → Option ℕ
flash_page_of Free = None
flash_page_of (Fixed flash_page) = Some flash_page
flash_page_of (First flash_page n) = Some flash_page
flash_page_of (Later flash_page) = Some flash_page

-- how many pages were mapped together from a page on that is used so
abbrev pub run_length : PageUse → ℕ
run_length Free = 0
run_length (Fixed flash_page) = 0
run_length (First flash_page n) = n
run_length (Later flash_page) = 0

-- the lowest run of so many free pages was found, or there is none, and the longest has fewer
abbrev pub IsFound : List PageUse → ℕ → Result ℕ NoPages → Type 0
IsFound uses n (Ok first) = IsLowest uses n first
IsFound uses n (Err refusal) = (refusal.longest < n) × IsLongest uses refusal.longest

-- the pages once those that were found are mapped
abbrev pub after_found : List PageUse → ℕ → ℕ → Result ℕ NoPages → List PageUse
after_found uses flash_page n (Ok first) = with_run uses first (mapped_run flash_page n)
after_found uses flash_page n (Err refusal) = uses

-- a run that was mapped begins with this page, or none does
abbrev pub IsFreed : List PageUse → ℕ → Result (Unit {0}) NotMapped → Type 0
IsFreed uses first (Ok _) = (n : ℕ) × IsRunAt uses first n
IsFreed uses first (Err _) = (n : ℕ) → ¬ IsRunAt uses first n

-- the pages once that run is freed
abbrev pub after_freed : List PageUse → ℕ → Result (Unit {0}) NotMapped → List PageUse
after_freed uses first (Ok _) =
    with_run uses first (replicate (run_length (use_at uses first)) Free)
after_freed uses first (Err _) = uses
