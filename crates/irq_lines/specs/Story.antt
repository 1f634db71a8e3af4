-- The run of the two pending words: which lines were raised and served, in one order; what each core
-- has seen of it; and the numbers of each line, tallied over it.
use Rattle.std.specs.Prelude.{◌≡◌, ◌==◌, ◌<◌, ◌≤◌, ◌+◌, ◌-◌, ◌^◌, ◌++◌, ℕ, ◌⊎◌, List, [], ◌∷◌, min, bit_and, bit_or, if◌then◌else◌}
use Rattle.std.specs.Int.{bit_at, bit_not, w32}
use Rattle.irq_lines.specs.declared.view.Act.{Act}
use Rattle.irq_lines.specs.declared.view.Act.TheVariants.{Raised, Served}
use Rattle.irq_lines.specs.declared.view.Entry.{Entry}
use Rattle.irq_lines.specs.declared.view.View.{View}
use Rattle.irq_lines.specs.declared.view.Stage.TheVariants.{Both}

-- an entry of a run
abbrev pub entry : ℕ → Act → Entry
entry c act = record { by = c; act = act }

-- the entries of a core
abbrev pub done_by : ℕ → List Entry → List Entry
done_by c [] = []
done_by c (e ∷ es) = if e.by == c then e ∷ done_by c es else done_by c es

-- each entry is of core 0 or core 1
abbrev pub AreOfBothCores : List Entry → Type 0
AreOfBothCores [] = Unit {0}
AreOfBothCores (e ∷ es) = (e.by < 2) × AreOfBothCores es

-- the lines of a step are among the 32 of a core
abbrev pub IsPlain : Act → Type 0
IsPlain (Raised core bits) = bits < 2 ^ 32
IsPlain (Served core mask) = mask < 2 ^ 32

abbrev pub ArePlain : List Entry → Type 0
ArePlain [] = Unit {0}
ArePlain (e ∷ es) = IsPlain e.act × ArePlain es

-- what a step makes of the word of core k: a raise sets its bits, a serve clears those in its mask
abbrev pub word_by : ℕ → ℕ → Act → ℕ
word_by k n (Raised core bits) = if core == k then bit_or n bits else n
word_by k n (Served core mask) = if core == k then bit_and n (bit_not w32 mask) else n

-- the same of a run
abbrev pub word_after : ℕ → ℕ → List Entry → ℕ
word_after k n [] = n
word_after k n (e ∷ es) = word_after k (word_by k n e.act) es

-- the pending lines of core k where a run leads
abbrev pub pending : List Entry → ℕ → ℕ
pending run k = word_after k 0 run

-- how often a step calls for line l of core k
abbrev pub calls_in : ℕ → ℕ → ℕ → Act → ℕ
calls_in k l n (Raised core bits) = if core == k then bit_at bits l else 0
calls_in k l n (Served core mask) = 0

-- how often it raises that line where it is clear, over the word n before
abbrev pub fresh_in : ℕ → ℕ → ℕ → Act → ℕ
fresh_in k l n (Raised core bits) =
    if core == k then min (bit_at bits l) (1 - bit_at n l) else 0
fresh_in k l n (Served core mask) = 0

-- how often it serves that line
abbrev pub served_in : ℕ → ℕ → ℕ → Act → ℕ
served_in k l n (Raised core bits) = 0
served_in k l n (Served core mask) =
    if core == k then min (bit_at n l) (bit_at mask l) else 0

-- the sum of such numbers over the steps of core c, from the word n of core k on
abbrev pub tallied : (ℕ → Act → ℕ) → ℕ → ℕ → ℕ → List Entry → ℕ
tallied f k c n [] = 0
tallied f k c n (e ∷ es) =
    (if e.by == c then f n e.act else 0) + tallied f k c (word_by k n e.act) es

-- how often core c called for line l of core k
abbrev pub made : ℕ → List Entry → ℕ → ℕ → ℕ
made c run k l = tallied (calls_in k l) k c 0 run

-- how often it found that line clear
abbrev pub raised : ℕ → List Entry → ℕ → ℕ → ℕ
raised c run k l = tallied (fresh_in k l) k c 0 run

-- how often it served that line
abbrev pub served : ℕ → List Entry → ℕ → ℕ → ℕ
served c run k l = tallied (served_in k l) k c 0 run

-- a run that may be: of both cores, on lines that there are, with fewer calls than 2 ^ 32 of each
-- core for each line
pub record IsRun (run : List Entry) : Type 0 where
  pub two : AreOfBothCores run
  pub plain : ArePlain run
  pub few : (c k l : ℕ) → made c run k l ≤ 4294967295

-- what a core has seen is a beginning of the run, and no entry of its own came later
pub record Saw (run : List Entry) (c : ℕ) (seen : List Entry) : Type 0 where
  pub later : List Entry
  pub splits : run ≡ seen ++ later
  pub none_own : done_by c later ≡ []

-- the two are core 0 and core 1
abbrev pub Apart : ℕ → ℕ → Type 0
Apart c o = ((c ≡ 0) × (o ≡ 1)) ⊎ ((c ≡ 1) × (o ≡ 0))

-- one run leads to these words, and both cores have seen beginnings of it
pub record Story (words : List ℕ) (c o : ℕ) (mine theirs : List Entry) : Type 0 where
  pub run : List Entry
  pub is_run : IsRun run
  pub numbers : words ≡ pending run 0 ∷ pending run 1 ∷ []
  pub saw : Saw run c mine
  pub saw' : Saw run o theirs

-- one step, that found n in word i: the run went on from what the seat had seen, by entries of the
-- other core alone, and then by this one of its own. It may be, and just before it n was pending
pub record Went (act : Act) (i n : ℕ) (v v' : View) : Type 0 where
  pub between : List Entry
  pub none_own : done_by v.core between ≡ []
  pub is : v'.seen ≡ (v.seen ++ between) ++ entry v.core act ∷ []
  pub is_run : IsRun v'.seen
  pub found : pending (v.seen ++ between) i ≡ n
  -- a seat that took in the other one knows all that came before
  pub beside :
      v.stage ≡ Both → Apart v.core v.other × Saw (v.seen ++ between) v.other v.other_seen

-- of one line: the raises that found it clear are the serves and what is pending; they are at most
-- the calls, and there is one where there was a call
pub record Balance (made raised served bit : ℕ) : Type 0 where
  pub even : raised ≡ served + bit
  pub at_most : raised ≤ made
  pub at_least : 1 ≤ made → 1 ≤ raised
