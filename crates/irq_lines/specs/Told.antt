-- What the calls tell: how the run that a seat has seen went on.
use Rattle.std.specs.Prelude.{◌≡◌, ◌==◌, ◌<◌, ◌≤◌, ◌+◌, ◌^◌, ◌↔◌, ℕ, Bool, IsTrue, List, slice_index, bit_and, if◌then◌else◌}
use Rattle.std.specs.Int.{bit_at, bit_not, w32}
use Rattle.atomic_table.specs.Table.{Me, Step}
use Rattle.irq_lines.specs.declared.view.Act.{Act}
use Rattle.irq_lines.specs.declared.view.Act.TheVariants.{Raised, Served}
use Rattle.irq_lines.specs.declared.view.Entry.{Entry}
use Rattle.irq_lines.specs.declared.view.View.{View}
use Rattle.irq_lines.specs.Views.{Seated, saw}
use Rattle.irq_lines.specs.Story.{Went, IsRun, Saw, made, raised, pending}
use Rattle.irq_lines.specs.Counts.{AreCounts}

-- the seat's step raised this line of a core, and the answer says whether it was clear
abbrev pub HasRaised : ℕ → ℕ → Bool → Seated → Seated → Type 0
HasRaised core line answer s t =
    (n : ℕ) × (IsTrue answer ↔ (bit_at n line ≡ 0))
    × Went (Raised core (2 ^ line)) core n s.view t.view

-- the seat's step served the own lines within the mask, and the answer is those that were pending
abbrev pub HasServed : ℕ → ℕ → Seated → Seated → Type 0
HasServed mask answer s t =
    (n : ℕ) × (answer ≡ bit_and n mask)
    × Went (Served s.view.core mask) s.view.core n s.view t.view

-- of the calls for the lines, the seat's number of this line rose by one, and no other
abbrev pub RaisedOnce : ℕ → ℕ → View → View → Type 0
RaisedOnce core line v w =
    (k l : ℕ) → l < 32 →
    made w.core w.seen k l
    ≡ made v.core v.seen k l + (if core == k then (if line == l then 1 else 0) else 0)

-- the seat's core called for no line more often than this
abbrev pub MadeAtMost : ℕ → View → Type 0
MadeAtMost n v = (k l : ℕ) → l < 32 → made v.core v.seen k l ≤ n

-- the numbers of the calls, and of those that found a line clear, are as they were
pub record RaisesAreKept (v w : View) : Type 0 where
  pub calls : made w.core w.seen ≡ made v.core v.seen
  pub fresh : raised w.core w.seen ≡ raised v.core v.seen

-- what a step on a word tells
abbrev pub Tells : {S : Type 0} → Act → ℕ → ℕ → Me S View → Me S View → Type 0
Tells act i n me me' = (me' ≡ (saw me.0 me'.0.seen, me.1)) × Went act i n me.0 me'.0

-- the same of a raise, which sets the bits of its operand
abbrev pub TellsRaised : {S : Type 0} → Step S → Me S View → ℕ → Me S View → Type 0
TellsRaised st me n me' = Tells (Raised st.word st.first) st.word n me me'

-- the same of a serve, which keeps the bits of its operand
abbrev pub TellsServed : {S : Type 0} → Step S → Me S View → ℕ → Me S View → Type 0
TellsServed st me n me' = Tells (Served st.word (bit_not w32 st.first)) st.word n me me'

-- a serve of the seat that took in the other one
abbrev pub LastServed : {S : Type 0} → ℕ → ℕ → ℕ → Me S View → Me S View → Type 0
LastServed core mask answer me me' =
    (n : ℕ) × (answer ≡ bit_and n mask) × Tells (Served core mask) core n me me'

-- the last numbers are the sums of what both seats did
pub record IsCounted (v w : View) (calls fresh : List (List ℕ)) : Type 0 where
  pub calls_are : AreCounts calls (λ k l. made v.core v.seen k l + made w.core w.seen k l)
  pub fresh_are : AreCounts fresh (λ k l. raised v.core v.seen k l + raised w.core w.seen k l)

-- one run leads to what was pending, and both seats have seen beginnings of it with all that they did.
-- No line within the masks is left, and every other one is as it was
pub record EndsIn (v w : View) (masks words : List ℕ) : Type 0 where
  pub run : List Entry
  pub is_run : IsRun run
  pub saw : Saw run v.core v.seen
  pub saw' : Saw run w.core w.seen
  pub left :
      (k : ℕ) → k < 2 →
      slice_index words k ≡ bit_and (pending run k) (bit_not w32 (slice_index masks k))
