-- Quiet periods, one after the other, as they show in a run.
use Rattle.std.proofs.Common.{◌≡◌, ℕ, zero, suc, ◌+◌, ◌-◌, ◌/◌, ◌%◌, ◌≤◌, ◌<◌, ◌++◌, ◌∙◌, ap, subst, sym, refl, arith, inl, inr, List, [], ◌∷◌, length, take, drop, Option, Result, Ok, Err, append-nil, append_assoc, length-append, length-take}
use Rattle.std.specs.Prelude.{replicate}
use Rattle.std.proofs.lemmas.Bool.{cases_lt}
use Rattle.std.proofs.lemmas.List.{take-append-drop, take_all}
use Rattle.std.proofs.Math.ListN.{drop_of_length-le}
use Rattle.nor_device.specs.declared.step.Step.{Step}
use Rattle.nor_device.specs.declared.nor.NorFault.{NorFault}
use Rattle.duo_machine.specs.declared.events.Kind.{Kind}
use Rattle.duo_machine.specs.declared.events.Kind.TheVariants as kinds
use Rattle.bus_hub.specs.declared.did.Did.{Did}
use Rattle.cache_gate.specs.Own.{Own, HasShown, HasShownStep}
use Rattle.cache_gate.proofs.Walks.{works_first, works_last, works_none, works_then}
use Rattle.flash_steps.specs.Steps.{erase_steps, write_steps}
use Rattle.flash_steps.proofs.EraseLemmas.{count_of_erase}
use Rattle.flash_steps.proofs.WriteLemmas.{count_of_write, pieces_of_write, no_steps}
use Rattle.flash_ops.specs.declared.refusal.StepNo.{StepNo}
use Rattle.flash_ops.specs.declared.refusal.OpNo.{OpNo}
use Rattle.flash_ops.specs.declared.refusal.StepNo.TheVariants.{Device, Cut}
use Rattle.flash_ops.specs.Told.{LooksBehind, fault_of, unbarred}
use Rattle.flash_ops.specs.Periods.{steps_shown, period_shown, periods_shown, if_some, by_sixteens, write_periods, erase_periods, read_periods, BreaksOffWithin, HasPeriods, HasFewSteps, HasShownSteps, HasFewInPeriod, HasPeriod}
use Rattle.flash_ops.proofs.Pieces.{all_pages, few_pages}

-- ---- what shows, one part after the other

module _ {B D : Type 0} where
  pub shown_none : (o : Own B D) → HasShown [] o o
  shown_none o = works_none o.core o.seen

  pub shown_then : (a b : List Kind) (o p q : Own B D) → HasShown a o p → HasShown b p q
      → HasShown (a ++ b) o q
  shown_then a b o p q x y = works_then a b o.core p.core q.core o.seen p.seen q.seen x y

  pub shown_first : (a : List Kind) (o p q : Own B D) → HasShown [] o p → HasShown a p q
      → HasShown a o q
  shown_first a o p q x y = works_first a o.core p.core q.core o.seen p.seen q.seen x y

  pub shown_last : (a : List Kind) (o p q : Own B D) → HasShown a o p → HasShown [] p q
      → HasShown a o q
  shown_last a o p q x y = works_last a o.core p.core q.core o.seen p.seen q.seen x y

-- one step behind others
steps_shown-last : (n : ℕ) → steps_shown (suc n) ≡ steps_shown n ++ kinds.Begin ∷ kinds.Done ∷ []
steps_shown-last zero = refl
steps_shown-last (suc n) =
    ap (λ (l : List Kind). kinds.Begin ∷ kinds.Done ∷ l) (steps_shown-last n)

periods_shown-append : (a b : List ℕ) → periods_shown (a ++ b) ≡ periods_shown a ++ periods_shown b
periods_shown-append [] b = refl
periods_shown-append (n ∷ a) b =
    ap (λ (l : List Kind). period_shown n ++ l) (periods_shown-append a b)
    ∙ sym (append_assoc (period_shown n) (periods_shown a) (periods_shown b))

-- a last period behind others
periods_shown-last : (a : List ℕ) (n : ℕ)
    → periods_shown (a ++ n ∷ []) ≡ periods_shown a ++ period_shown n
periods_shown-last a n = periods_shown-append a (n ∷ [])
    ∙ ap (λ (l : List Kind). periods_shown a ++ l) (append-nil (period_shown n))

-- ---- the steps of one quiet period

-- so many steps of a whole have shown, and so many are left
pub record Stepping {B D : Type 0} (whole left : ℕ) (o c : Own B D) : Type 0 where
  pub many : ℕ
  pub whole_is : many + left ≡ whole
  pub shows : HasShown (steps_shown many) o c

module _ {B D : Type 0} where
  pub stepping_none : (whole : ℕ) (o : Own B D) → Stepping whole whole o o
  stepping_none whole o = record { many = 0; whole_is = omega arith; shows = shown_none o }

  one_more : (n : ℕ) (o c d : Own B D) → HasShown (steps_shown n) o c
      → HasShown (kinds.Begin ∷ kinds.Done ∷ []) c d → HasShown (steps_shown (suc n)) o d
  one_more n o c d x y =
      subst (λ (l : List Kind). HasShown l o d) (sym (steps_shown-last n))
      (shown_then (steps_shown n) (kinds.Begin ∷ kinds.Done ∷ []) o c d x y)

  pub stepping_one : (whole left rest : ℕ) (o c d : Own B D) → left ≡ suc rest
      → Stepping whole left o c → HasShown (kinds.Begin ∷ kinds.Done ∷ []) c d
      → Stepping whole rest o d
  stepping_one whole left rest o c d more x y =
      let sum = x.whole_is in
      record {
        many = suc x.many;
        whole_is = omega arith;
        shows = one_more x.many o c d x.shows y;
      }

  pub stepping_stops : (whole left rest : ℕ) (why : NorFault) (o c d : Own B D) → left ≡ suc rest
      → Stepping whole left o c → HasShownStep (Err why) c d → HasFewSteps whole o d
  stepping_stops whole left rest why o c d more x (inl y) =
      let sum = x.whole_is in
      record {
        many = x.many;
        within = omega arith;
        shows = shown_last (steps_shown x.many) o c d x.shows y;
      }
  stepping_stops whole left rest why o c d more x (inr y) =
      let sum = x.whole_is in
      record {
        many = suc x.many;
        within = omega arith;
        shows = one_more x.many o c d x.shows y;
      }

  pub stepping_all : (whole left : ℕ) (o c : Own B D) → left ≡ 0 → Stepping whole left o c
      → HasShown (steps_shown whole) o c
  stepping_all whole left o c none x =
      let sum = x.whole_is in
      let all : x.many ≡ whole = omega arith in
      subst (λ (n : ℕ). HasShown (steps_shown n) o c) all x.shows

  -- a step is one
  pub one_step : (r : Result (Unit {0}) NorFault) (o p : Own B D) → HasShownStep r o p
      → HasShownSteps 1 r o p
  one_step (Ok u) o p x = x
  one_step (Err why) o p (inl x) = record { many = 0; within = omega arith; shows = x }
  one_step (Err why) o p (inr x) = record { many = 1; within = omega arith; shows = x }

  -- a read is none
  pub no_step : (r : Result (Unit {0}) NorFault) (o p : Own B D) → HasShown [] o p
      → HasShownSteps 0 r o p
  no_step (Ok u) o p x = x
  no_step (Err why) o p x = record { many = 0; within = omega arith; shows = x }

  -- from taking the lock to giving it back
  in_period : (n : ℕ) (o a b c : Own B D) → HasShown (kinds.Take ∷ []) o a
      → HasShown (steps_shown n) a b → HasShown (kinds.Give ∷ []) b c
      → HasShown (period_shown n) o c
  in_period n o a b c x y z =
      shown_then (kinds.Take ∷ []) (steps_shown n ++ kinds.Give ∷ []) o a c x
      (shown_then (steps_shown n) (kinds.Give ∷ []) a b c y z)

  pub period_of_steps : (n : ℕ) (r : Result (Unit {0}) NorFault) (o a b c : Own B D)
      → HasShown (kinds.Take ∷ []) o a → HasShownSteps n r a b → HasShown (kinds.Give ∷ []) b c
      → HasPeriod n r o c
  period_of_steps n (Ok u) o a b c x y z = in_period n o a b c x y z
  period_of_steps n (Err why) o a b c x y z = record {
    many = y.many;
    within = y.within;
    shows = in_period y.many o a b c x y.shows z;
  }

module _ {B : Type 0} where
  -- and the look behind it
  pub period_looked : (n k : ℕ) (probe : Option ℕ) (made r : Result (Unit {0}) NorFault)
      (o c d : Own B Did) → HasPeriod n made o c → LooksBehind k probe made r c d
      → HasShown [] c d → HasPeriod n r o d
  period_looked n k probe (Ok u) (Ok v) o c d x look y = shown_last (period_shown n) o c d x y
  period_looked n k probe (Ok u) (Err why) o c d x look y = record {
    many = n;
    within = omega arith;
    shows = shown_last (period_shown n) o c d x y;
  }
  period_looked n k probe (Err why) r o c d x look y =
      subst (λ (z : Result (Unit {0}) NorFault). HasPeriod n z o d) (sym look.0) (record {
        many = x.many;
        within = x.within;
        shows = shown_last (period_shown x.many) o c d x.shows y;
      })

-- ---- one quiet period after the other

-- the periods of a whole in front of those that are left have shown
pub record Passed {B D : Type 0} (whole left : List ℕ) (o c : Own B D) : Type 0 where
  pub front : List ℕ
  pub whole_is : front ++ left ≡ whole
  pub shows : HasShown (periods_shown front) o c

breaks_off : (front rest : List ℕ) (n m : ℕ) → m ≤ n
    → BreaksOffWithin (front ++ n ∷ rest) (front ++ m ∷ [])
breaks_off [] rest n m within = inl (within, refl)
breaks_off (x ∷ front) rest n m within = inr (refl, breaks_off front rest n m within)

module _ {B D : Type 0} where
  pub passed_none : (whole left : List ℕ) (o : Own B D) → left ≡ whole → Passed whole left o o
  passed_none whole left o is = record { front = []; whole_is = is; shows = shown_none o }

  behind_front : (front : List ℕ) (n : ℕ) (o c d : Own B D) → HasShown (periods_shown front) o c
      → HasShown (period_shown n) c d → HasShown (periods_shown (front ++ n ∷ [])) o d
  behind_front front n o c d x y =
      subst (λ (l : List Kind). HasShown l o d) (sym (periods_shown-last front n))
      (shown_then (periods_shown front) (period_shown n) o c d x y)

  -- one more
  pub passed_one : (whole left rest : List ℕ) (n : ℕ) (o c d : Own B D) → left ≡ n ∷ rest
      → Passed whole left o c → HasShown (period_shown n) c d → Passed whole rest o d
  passed_one whole left rest n o c d is x y = record {
    front = x.front ++ n ∷ [];
    whole_is = append_assoc x.front (n ∷ []) rest
        ∙ (ap (λ (l : List ℕ). x.front ++ l) (sym is) ∙ x.whole_is);
    shows = behind_front x.front n o c d x.shows y;
  }

  -- the next one was refused
  pub passed_stops : (whole left rest : List ℕ) (n : ℕ) (r : Result (Unit {0}) StepNo)
      (why : NorFault) (o c d : Own B D) → fault_of r ≡ Err why → left ≡ n ∷ rest
      → Passed whole left o c → HasFewInPeriod n c d → HasPeriods whole r o d
  passed_stops whole left rest n (Ok u) why o c d refused is x y =
      let other : Ok tt ≡ Err why = refused in absurd cc
  passed_stops whole left rest n (Err cause) why o c d refused is x y = record {
    made = x.front ++ y.many ∷ [];
    by_answer = subst (λ (l : List ℕ). BreaksOffWithin l (x.front ++ y.many ∷ []))
        (ap (λ (l : List ℕ). x.front ++ l) (sym is) ∙ x.whole_is)
        (breaks_off x.front rest n y.many y.within);
    shows = behind_front x.front y.many o c d x.shows y.shows;
  }

  -- none is left
  pub passed_all : {E : Type 0} (whole left : List ℕ) (o c : Own B D) → left ≡ []
      → Passed whole left o c → HasPeriods {E = E} whole (Ok tt) o c
  passed_all whole left o c none x = record {
    made = x.front;
    by_answer = sym (append-nil x.front)
        ∙ (ap (λ (l : List ℕ). x.front ++ l) (sym none) ∙ x.whole_is);
    shows = x.shows;
  }

  -- as the answer of a change of a partition
  pub periods_unbarred : (periods : List ℕ) (r : Result (Unit {0}) StepNo)
      (q : Result (Unit {0}) OpNo) (o c : Own B D) → q ≡ unbarred r → HasPeriods periods r o c
      → HasPeriods periods q o c
  periods_unbarred periods r q o c answered x =
      subst (λ (z : Result (Unit {0}) OpNo). HasPeriods periods z o c) (sym answered) (by r x)
    where
      by : (r : Result (Unit {0}) StepNo) → HasPeriods periods r o c
          → HasPeriods periods (unbarred r) o c
      by (Ok u) x = record { made = x.made; by_answer = x.by_answer; shows = x.shows }
      by (Err Device) x = record { made = x.made; by_answer = x.by_answer; shows = x.shows }
      by (Err Cut) x = record { made = x.made; by_answer = x.by_answer; shows = x.shows }

-- ---- which they are

-- sixteen steps in front of others
sixteen_more : (n m : ℕ) → n ≡ 16 + m → by_sixteens n ≡ 16 ∷ by_sixteens m
sixteen_more n m is =
    let whole : n / 16 ≡ suc (m / 16) = omega arith in
    let rest : n % 16 ≡ m % 16 = omega arith in
    λ i. replicate (whole i) 16 ++ if_some (rest i)

-- no more than sixteen
sixteen_last : (n : ℕ) → 1 ≤ n → n ≤ 16 → by_sixteens n ≡ n ∷ []
sixteen_last n some few =
    elim (cases_lt n 16) [
      | inl less ↦
          let whole : n / 16 ≡ 0 = omega arith in
          let rest : n % 16 ≡ suc (n - 1) = omega arith in
          let one : suc (n - 1) ≡ n = omega arith in
          (λ i. replicate (whole i) 16 ++ if_some (rest i)) ∙ ap (λ (m : ℕ). m ∷ []) one
      | inr more ↦
          let whole : n / 16 ≡ 1 = omega arith in
          let rest : n % 16 ≡ 0 = omega arith in
          let all : 16 ≡ n = omega arith in
          (λ i. replicate (whole i) 16 ++ if_some (rest i)) ∙ ap (λ (m : ℕ). m ∷ []) all
    ]

-- no byte, no period
write_periods_none : (at : ℕ) → write_periods at [] ≡ []
unfolding write_periods
write_periods_none at = ap (λ (s : List Step). by_sixteens (length s)) (no_steps at)

pub write_periods_done : (at : ℕ) (bytes : List ℕ) → length bytes ≡ 0 → write_periods at bytes ≡ []
write_periods_done at [] none = write_periods_none at
write_periods_done at (byte ∷ bytes) none = absurd (omega arith)

-- the first quiet period, and those behind it
write_periods_first : (at : ℕ) (bytes : List ℕ) → 1 ≤ length bytes
    → write_periods at bytes
    ≡ length (write_steps at (take (4096 - at % 256) bytes))
    ∷ write_periods (at + length (take (4096 - at % 256) bytes)) (drop (4096 - at % 256) bytes)
unfolding write_periods
write_periods_first at bytes some =
    let room = 4096 - at % 256 in
    let first = take room bytes in
    let rest = drop room bytes in
    elim (cases_lt room (length bytes)) [
      | inl more ↦
          let size : length first ≡ room = let e = length-take room bytes in omega arith in
          let sixteen : length (write_steps at first) ≡ 16 =
          count_of_write at first ∙ all_pages at (length first) size in
          let long = length-append (write_steps at first) (write_steps (at + length first) rest) in
          let cut : length (write_steps at bytes)
          ≡ length (write_steps at first ++ write_steps (at + length first) rest) =
          ap length (ap (λ (b : List ℕ). write_steps at b) (sym (take-append-drop room bytes))
          ∙ pieces_of_write at first rest (omega arith)) in
          sixteen_more (length (write_steps at bytes))
          (length (write_steps (at + length first) rest)) (omega arith)
          ∙ ap (λ (n : ℕ). n ∷ by_sixteens (length (write_steps (at + length first) rest)))
          (sym sixteen)
      | inr few ↦
          let n = few_pages at (length bytes) some few in
          let c = count_of_write at bytes in
          let whole : first ≡ bytes = take_all room bytes few in
          let none : rest ≡ [] = drop_of_length-le bytes few in
          sixteen_last (length (write_steps at bytes)) (omega arith) (omega arith)
          ∙ ap (λ (b : List ℕ). length (write_steps at b) ∷ []) (sym whole)
          ∙ ap (λ (l : List ℕ). length (write_steps at first) ∷ l)
          (sym (ap (λ (b : List ℕ). by_sixteens (length (write_steps (at + length first) b))) none
          ∙ ap (λ (s : List Step). by_sixteens (length s)) (no_steps (at + length first))))
    ]

-- the same, of pieces that were cut
pub write_periods_cut : (at : ℕ) (bytes first rest : List ℕ) → 1 ≤ length bytes
    → first ≡ take (4096 - at % 256) bytes → rest ≡ drop (4096 - at % 256) bytes
    → write_periods at bytes
    ≡ length (write_steps at first) ∷ write_periods (at + length first) rest
write_periods_cut at bytes first rest some front back =
    write_periods_first at bytes some
    ∙ (λ i. length (write_steps at (sym front i))
    ∷ write_periods (at + length (sym front i)) (sym back i))

pub erase_periods_all : (at len : ℕ) → replicate (len / 4096 - 0) 1 ≡ erase_periods at len
unfolding erase_periods
erase_periods_all at len =
    let count = count_of_erase at len in
    let all : len / 4096 - 0 ≡ length (erase_steps at len) = omega (arith, count) in
    ap (λ (n : ℕ). replicate n 1) all

pub sector_period : (count i : ℕ) → i < count
    → replicate {A = ℕ} (count - i) 1 ≡ 1 ∷ replicate {A = ℕ} (count - (i + 1)) 1
sector_period count i within =
    let more : count - i ≡ suc (count - (i + 1)) = omega arith in
    ap (λ (n : ℕ). replicate {A = ℕ} n 1) more

pub no_sector_period : (n : ℕ) → n ≡ 0 → replicate {A = ℕ} n 1 ≡ []
no_sector_period n none = ap (λ (m : ℕ). replicate {A = ℕ} m 1) none

pub read_periods_none : read_periods 0 ≡ []
unfolding read_periods
read_periods_none = refl

pub read_periods_next : (len piece : ℕ) → 1 ≤ len → piece ≤ len → (len ≤ 4096 → piece ≡ len)
    → (4096 ≤ len → piece ≡ 4096)
    → read_periods len ≡ 0 ∷ read_periods (len - piece)
unfolding read_periods
read_periods_next len piece some most short long =
    elim (cases_lt 4096 len) [
      | inl more ↦
          let p : piece ≡ 4096 = long (omega arith) in
          let n : (len + 4095) / 4096 ≡ suc ((len - piece + 4095) / 4096) = omega arith in
          ap (λ (m : ℕ). replicate m 0) n
      | inr few ↦
          let p : piece ≡ len = short few in
          let n : (len + 4095) / 4096 ≡ suc ((len - piece + 4095) / 4096) = omega arith in
          ap (λ (m : ℕ). replicate m 0) n
    ]
