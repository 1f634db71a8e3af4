-- The numbers of each line, as they are kept at run time: a row of 32 for each core.
use Rattle.std.specs.Prelude.{◌≡◌, ◌==◌, ◌<◌, ◌+◌, ℕ, List, [], slice_index, slice_index_or, if◌then◌else◌}
use Rattle.std.specs.Int.{bit_at}
use Rattle.atomic_table.specs.Table.{Me}
use Rattle.irq_lines.specs.declared.view.View.{View}
use Rattle.irq_lines.specs.Views.{IsOne}
use Rattle.irq_lines.specs.Story.{made, raised, served, IsRun, Balance}

-- the number of line l of core k
abbrev pub count_at : List (List ℕ) → ℕ → ℕ → ℕ
count_at rows k l = slice_index (slice_index_or rows k []) l

-- the rows have these numbers
abbrev pub AreCounts : List (List ℕ) → (ℕ → ℕ → ℕ) → Type 0
AreCounts rows f = (k l : ℕ) → k < 2 → l < 32 → count_at rows k l ≡ f k l

-- nothing was counted
abbrev pub AreZero : List (List ℕ) → Type 0
AreZero rows = (k l : ℕ) → k < 2 → l < 32 → count_at rows k l ≡ 0

-- the later rows have one more for each of these lines of a core
abbrev pub Adds : ℕ → ℕ → List (List ℕ) → List (List ℕ) → Type 0
Adds core bits before after =
    (k l : ℕ) → k < 2 → l < 32 →
    count_at after k l ≡ count_at before k l + (if core == k then bit_at bits l else 0)

-- the last rows are the sums of the first two
abbrev pub AreSums : List (List ℕ) → List (List ℕ) → List (List ℕ) → Type 0
AreSums a b both =
    (k l : ℕ) → k < 2 → l < 32 → count_at both k l ≡ count_at a k l + count_at b k l

-- a core's seat, as the core itself keeps it
pub record IsKept
    {S : Type 0} (me : Me S View) (core : ℕ) (calls fresh done : List (List ℕ)) : Type 0 where
  pub one : IsOne me.0
  pub hand : me.1 ≡ []
  pub core_is : me.0.core ≡ core
  pub small : core < 2
  pub is_run : IsRun me.0.seen
  pub calls_are : AreCounts calls (made core me.0.seen)
  pub fresh_are : AreCounts fresh (raised core me.0.seen)
  pub done_are : AreCounts done (served core me.0.seen)

-- each line of each core balances
abbrev pub IsEven :
    List ℕ → List (List ℕ) → List (List ℕ) → List (List ℕ) → Type 0
IsEven words calls fresh done =
    (k l : ℕ) → k < 2 → l < 32 →
    Balance (count_at calls k l) (count_at fresh k l) (count_at done k l)
    (bit_at (slice_index words k) l)
