-- What a seat knows, and how a step changes what it knows.
use Rattle.std.specs.Prelude.{◌≡◌, ℕ, List, []}
use Rattle.atomic_table.specs.Seated.{TableId}
use Rattle.irq_lines.specs.declared.view.Stage.TheVariants.{New, One, Both, Spent}
use Rattle.irq_lines.specs.declared.view.Entry.{Entry}
use Rattle.irq_lines.specs.declared.view.View.{View}

-- a table of the two pending words, with no slot
abbrev pub HasTwoWords : TableId → Type 0
HasTwoWords z = (z.words ≡ 2) × (z.slots ≡ 0)

-- what a contract sees of a seat: its table, its number there, and what it knows
pub record Seated : Type 0 where
  pub table : TableId
  pub number : ℕ
  pub view : View

-- the one view before the seats are dealt
abbrev pub fresh : View
fresh = record { stage = New; core = 0; other = 1; seen = []; other_seen = [] }

-- the view of a core as its seat is dealt, beside the other core
abbrev pub dealt : ℕ → ℕ → View
dealt c o = record { stage = One; core = c; other = o; seen = []; other_seen = [] }

-- what a seat knows once it has seen this run
abbrev pub saw : View → List Entry → View
saw v seen = record v { seen = seen }

-- the view of a seat that took in the other one's
abbrev pub both_of : View → View → View
both_of v w = record v { stage = Both; other = w.core; other_seen = w.seen }

-- the view that the other seat is left with
abbrev pub spent : View
spent = record fresh { stage = Spent }

-- the seat once it has seen this run
abbrev pub seat_saw : Seated → List Entry → Seated
seat_saw s seen = record s { view = saw s.view seen }

-- the view is of one core
abbrev pub IsOne : View → Type 0
IsOne v = v.stage ≡ One

-- the view is of both cores again
abbrev pub IsBoth : View → Type 0
IsBoth v = v.stage ≡ Both
