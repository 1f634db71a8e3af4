-- What a step of a seat adds to the numbers that it keeps.
use Rattle.std.proofs.Common.{◌≡◌, ◌==◌, ◌↔◌, ◌<◌, ◌≤◌, ◌^◌, ℕ, zero, suc, ◌+◌, ◌-◌, ◌++◌, ◌∙◌, ap, subst, sym, refl, Bool, true, false, IsTrue, List, bit_and, bit_or, eqb-true, eq-eqb, ne_eqb, arith}
use Rattle.std.specs.Prelude.{min, if◌then◌else◌}
use Rattle.std.specs.Int.{bit_at, bit_not, w32}
use Rattle.std.proofs.lemmas.Nat.Bits.{bit_at_and, bit_at-lt, bit_at-zero, bit_at-pow_same, bit_at-pow_other}
use mathlib.Core.Logic.{dite}
use native.Mathlib.Decide.{ℕ_discrete}
use mathlib.Core.Option as maybe
use Rattle.atomic_table.specs.Table.{Me, step, Allows}
use Rattle.irq_lines.specs.declared.view.Act.{Act}
use Rattle.irq_lines.specs.declared.view.Act.TheVariants.{Raised, Served}
use Rattle.irq_lines.specs.declared.view.View.{View}
use Rattle.irq_lines.specs.Views.{IsOne}
use Rattle.irq_lines.specs.Story.{pending, calls_in, fresh_in, served_in, tallied, made, raised, IsRun, Went}
use Rattle.irq_lines.specs.Counts.{count_at, AreCounts, Adds, IsKept}
use Rattle.irq_lines.specs.Rule.{Ruled}
use Rattle.irq_lines.specs.Told.{Tells, TellsRaised, TellsServed, RaisedOnce, RaisesAreKept}
use Rattle.irq_lines.proofs.Runs.{counted_append, counted_none, counted_own, numbers_fit}
use Rattle.irq_lines.proofs.OneStep.{IsOut, not_not, raises, serves}

module _ (act : Act) (i n : ℕ) (v v' : View) (w : Went act i n v v') where
  -- a step counts what it counts where the run led
  pub went_counts : (f : ℕ → Act → ℕ) (k : ℕ)
      → tallied f k v.core 0 v'.seen
      ≡ tallied f k v.core 0 v.seen + f (pending (v.seen ++ w.between) k) act
  went_counts f k =
      let seen = ap (tallied f k v.core 0) w.is in
      let own = counted_own f k v.core 0 (v.seen ++ w.between) act in
      let parts = counted_append f k v.core 0 v.seen w.between in
      let none = counted_none f k v.core (pending v.seen k) w.between w.none_own in
      omega (arith, seen, own, parts, none)

  -- the rows go on by the lines that the step counts
  goes_on : (f : ℕ → ℕ → ℕ → Act → ℕ) (own bits : ℕ) (before after : List (List ℕ)) → v.core ≡ own
      → AreCounts before (λ k l. tallied (f k l) k own 0 v.seen) → Adds i bits before after
      → ((k l m : ℕ) → l < 32 → (i ≡ k → m ≡ n) → f k l m act ≡ (if i == k then bit_at bits l else 0))
      → AreCounts after (λ k l. tallied (f k l) k own 0 v'.seen)
  goes_on f own bits before after core are adds counts = λ k l small line.
      let a = are k l small line in let b = adds k l small line in
      let c : tallied (f k l) k own 0 v'.seen
      ≡ tallied (f k l) k own 0 v.seen + f k l (pending (v.seen ++ w.between) k) act =
      subst (λ c. tallied (f k l) k c 0 v'.seen
      ≡ tallied (f k l) k c 0 v.seen + f k l (pending (v.seen ++ w.between) k) act) core
      (went_counts (f k l) k) in
      let d = counts k l (pending (v.seen ++ w.between) k) line
      (λ e. ap (pending (v.seen ++ w.between)) (sym e) ∙ w.found) in
      b ∙ ((λ j. a j + sym d j) ∙ sym c)

  -- rows of what the step does not count stay
  stays : (f : ℕ → ℕ → ℕ → Act → ℕ) (own : ℕ) (rows : List (List ℕ)) → v.core ≡ own
      → AreCounts rows (λ k l. tallied (f k l) k own 0 v.seen)
      → ((k l m : ℕ) → f k l m act ≡ 0) → AreCounts rows (λ k l. tallied (f k l) k own 0 v'.seen)
  stays f own rows core are none = λ k l small line.
      let a = are k l small line in
      let c : tallied (f k l) k own 0 v'.seen
      ≡ tallied (f k l) k own 0 v.seen + f k l (pending (v.seen ++ w.between) k) act =
      subst (λ c. tallied (f k l) k c 0 v'.seen
      ≡ tallied (f k l) k c 0 v.seen + f k l (pending (v.seen ++ w.between) k) act) core
      (went_counts (f k l) k) in
      let d = none k l (pending (v.seen ++ w.between) k) in omega (arith, a, c, d)

-- the bit of a line, read at each line
one_bit : (line l : ℕ) → bit_at (2 ^ line) l ≡ (if line == l then 1 else 0)
one_bit line l = dite (ℕ_discrete line l)
    (λ e. subst (λ l. bit_at (2 ^ line) l ≡ 1) e (bit_at-pow_same line)
    ∙ ap (λ b. if b then 1 else 0) (sym (eq-eqb line l e)))
    (λ ne. bit_at-pow_other line l (λ e. ne (sym e))
    ∙ ap (λ b. if b then 1 else 0) (sym (ne_eqb line l ne)))

-- a raise finds its line clear exactly where it answers true
fresh_bit : (line n l : ℕ) (fresh : Bool) → (IsTrue fresh ↔ (bit_at n line ≡ 0))
    → min (bit_at (2 ^ line) l) (1 - bit_at n l) ≡ bit_at (if fresh then 2 ^ line else 0) l
fresh_bit line n l fresh is = dite (ℕ_discrete line l)
    (λ e. subst
    (λ l. min (bit_at (2 ^ line) l) (1 - bit_at n l) ≡ bit_at (if fresh then 2 ^ line else 0) l) e
    (same fresh is))
    (λ ne. let zero_bit = bit_at-pow_other line l (λ e. ne (sym e)) in
    ap (λ b. min b (1 - bit_at n l)) zero_bit ∙ (none_of (bit_at n l) ∙ sym (clear fresh zero_bit)))
  where
    none_of : (b : ℕ) → min 0 (1 - b) ≡ 0
    none_of b = omega arith

    clear : (fresh : Bool) → bit_at (2 ^ line) l ≡ 0 → bit_at (if fresh then 2 ^ line else 0) l ≡ 0
    clear true e = e
    clear false e = bit_at-zero l

    same : (fresh : Bool) → (IsTrue fresh ↔ (bit_at n line ≡ 0))
        → min (bit_at (2 ^ line) line) (1 - bit_at n line) ≡ bit_at (if fresh then 2 ^ line else 0) line
    same true is = let b = is.0 refl in
        let one = bit_at-pow_same line in
        ap (λ x. min (bit_at (2 ^ line) line) (1 - x)) b ∙ ((λ j. min (one j) 1) ∙ sym one)
    same false is = set_already (bit_at n line) (bit_at-lt n line) (λ e. false_is (is.1 e))
        ∙ sym (bit_at-zero line)
      where
        false_is : IsTrue false → ⊥
        false_is e = cc e

        set_already : (b : ℕ) → b < 2 → (b ≡ 0 → ⊥)
            → min (bit_at (2 ^ line) line) (1 - b) ≡ 0
        set_already zero x y = absurd (y refl)
        set_already (suc zero) x y = omega arith
        set_already (suc (suc b)) x y = absurd (omega arith)

module _ (core line n : ℕ) (v v' : View) (w : Went (Raised core (2 ^ line)) core n v v') where
  -- of the calls this line's number rose by one, and no other
  pub raised_once : v'.core ≡ v.core → RaisedOnce core line v v'
  raised_once same = λ k l small.
      ap (λ c. made c v'.seen k l) same
      ∙ (went_counts (Raised core (2 ^ line)) core n v v' w (calls_in k l) k
      ∙ ap (λ b. made v.core v.seen k l + (if core == k then b else 0)) (one_bit line l))

module _ (mask i n : ℕ) (v v' : View) (w : Went (Served i mask) i n v v') where
  -- a serve leaves the numbers of the raises
  pub raises_kept : v'.core ≡ v.core → RaisesAreKept v v'
  raises_kept same = record {
    calls = λ j k l.
        (ap (λ c. made c v'.seen k l) same
        ∙ (went_counts (Served i mask) i n v v' w (calls_in k l) k ∙ plus_zero (made v.core v.seen k l))) j;
    fresh = λ j k l.
        (ap (λ c. raised c v'.seen k l) same
        ∙ (went_counts (Served i mask) i n v v' w (fresh_in k l) k ∙ plus_zero (raised v.core v.seen k l))) j;
  }
    where
      plus_zero : (m : ℕ) → m + 0 ≡ m
      plus_zero m = omega arith

-- the lines that a serve answers are those that it counts
pub served_bits : (mask n m l k i : ℕ) → (i ≡ k → m ≡ n)
    → served_in k l m (Served i mask) ≡ (if i == k then bit_at (bit_and n mask) l else 0)
served_bits mask n m l k i found = by_core (i == k) (λ e. found (eqb-true i k e))
  where
    by_core : (t : Bool) → (t ≡ true → m ≡ n)
        → (if t then min (bit_at m l) (bit_at mask l) else 0)
        ≡ (if t then bit_at (bit_and n mask) l else 0)
    by_core true is = ap (λ x. min (bit_at x l) (bit_at mask l)) (is refl)
        ∙ sym (bit_at_and n mask l)
    by_core false is = refl

fresh_bits : (line n m l k i : ℕ) (fresh : Bool) → (IsTrue fresh ↔ (bit_at n line ≡ 0))
    → (i ≡ k → m ≡ n)
    → fresh_in k l m (Raised i (2 ^ line))
    ≡ (if i == k then bit_at (if fresh then 2 ^ line else 0) l else 0)
fresh_bits line n m l k i fresh is found = by_core (i == k) (λ e. found (eqb-true i k e))
  where
    by_core : (t : Bool) → (t ≡ true → m ≡ n)
        → (if t then min (bit_at (2 ^ line) l) (1 - bit_at m l) else 0)
        ≡ (if t then bit_at (if fresh then 2 ^ line else 0) l else 0)
    by_core true same = ap (λ x. min (bit_at (2 ^ line) l) (1 - bit_at x l)) (same refl)
        ∙ fresh_bit line n l fresh is
    by_core false same = refl

module _ {S : Type 0} (me me' : Me S View) (own n : ℕ) (calls fresh done : List (List ℕ))
    (kept : IsKept me own calls fresh done) where
  -- what a seat keeps after a raise
  pub kept_raised : (core line : ℕ) (answer : Bool) (calls' fresh' : List (List ℕ))
      → Tells (Raised core (2 ^ line)) core n me me' → (IsTrue answer ↔ (bit_at n line ≡ 0))
      → Adds core (2 ^ line) calls calls' → Adds core (if answer then 2 ^ line else 0) fresh fresh'
      → IsKept me' own calls' fresh' done
  kept_raised core line answer calls' fresh' t is adds adds' =
      let act = Raised core (2 ^ line) in let w = t.1 in let core_is = kept.core_is in record {
        one = ap (λ m. m.0.stage) t.0 ∙ kept.one;
        hand = ap (λ m. m.1) t.0 ∙ kept.hand;
        core_is = ap (λ m. m.0.core) t.0 ∙ kept.core_is;
        small = kept.small;
        is_run = w.is_run;
        calls_are = goes_on act core n me.0 me'.0 w calls_in own (2 ^ line) calls calls' core_is
            kept.calls_are adds (λ k l m line' found. refl);
        fresh_are = goes_on act core n me.0 me'.0 w fresh_in own (if answer then 2 ^ line else 0)
            fresh fresh' core_is kept.fresh_are adds'
            (λ k l m line' found. fresh_bits line n m l k core answer is found);
        done_are = stays act core n me.0 me'.0 w served_in own done core_is kept.done_are
            (λ k l m. refl);
      }

  -- what it keeps after a serve
  pub kept_served : (mask : ℕ) (done' : List (List ℕ)) → Tells (Served own mask) own n me me'
      → Adds own (bit_and n mask) done done' → IsKept me' own calls fresh done'
  kept_served mask done' t adds =
      let act = Served own mask in let w = t.1 in let core_is = kept.core_is in record {
        one = ap (λ m. m.0.stage) t.0 ∙ kept.one;
        hand = ap (λ m. m.1) t.0 ∙ kept.hand;
        core_is = ap (λ m. m.0.core) t.0 ∙ kept.core_is;
        small = kept.small;
        is_run = w.is_run;
        calls_are = stays act own n me.0 me'.0 w calls_in own calls core_is kept.calls_are
            (λ k l m. refl);
        fresh_are = stays act own n me.0 me'.0 w fresh_in own fresh core_is kept.fresh_are
            (λ k l m. refl);
        done_are = goes_on act own n me.0 me'.0 w served_in own (bit_and n mask) done done' core_is
            kept.done_are adds (λ k l m line found. served_bits mask n m l k own found);
      }

  -- the same, of a raise as it was made
  pub raise_kept : (core line i operand bits only : ℕ) (answer : Bool)
      (calls' fresh' : List (List ℕ)) → i ≡ core → operand ≡ 2 ^ line → bits ≡ 2 ^ line
      → only ≡ (if answer then bits else 0) → Tells (Raised i operand) i n me me' → (IsTrue answer ↔ (bit_at n line ≡ 0))
      → Adds core bits calls calls' → Adds core only fresh fresh' → IsKept me' own calls' fresh' done
  raise_kept core line i operand bits only answer calls' fresh' e o f g t is adds adds' =
      kept_raised core line answer calls' fresh'
      (subst (λ (z : ℕ × ℕ). Tells (Raised z.0 z.1) z.0 n me me') (λ k. (e k, o k)) t) is
      (subst (λ b. Adds core b calls calls') f adds)
      (subst (λ b. Adds core b fresh fresh') (g ∙ ap (λ b. if answer then b else 0) f) adds')

  -- the same, of a serve as it was made
  pub serve_kept : (mask i kept_bits bits : ℕ) (done' : List (List ℕ)) → i ≡ own
      → kept_bits ≡ bit_not w32 mask → mask < 2 ^ 32 → bits ≡ bit_and n mask
      → Tells (Served i (bit_not w32 kept_bits)) i n me me' → Adds own bits done done'
      → IsKept me' own calls fresh done'
  serve_kept mask i kept_bits bits done' e f plain g t adds =
      kept_served mask done'
      (subst (λ (z : ℕ × ℕ). Tells (Served z.0 z.1) z.0 n me me')
      (λ k. (e k, (ap (bit_not w32) f ∙ not_not mask plain) k)) t)
      (subst (λ b. Adds own b done done') g adds)

-- the numbers that a seat keeps are far from the end of a u64
pub room : {S : Type 0} (me : Me S View) (own : ℕ) (calls fresh done : List (List ℕ))
    → IsKept me own calls fresh done → (k l : ℕ) → k < 2 → l < 32
    → (count_at calls k l + 1 < 2 ^ 33) × (count_at fresh k l + 1 < 2 ^ 33)
    × (count_at done k l + 1 < 2 ^ 34)
room me own calls fresh done kept k l small line =
    let fit = numbers_fit me.0.seen kept.is_run own kept.small k l line in
    let a = kept.calls_are k l small line in let b = kept.fresh_are k l small line in
    let c = kept.done_are k l small line in
    (omega (arith, fit.0, a), omega (arith, fit.1, b), omega (arith, fit.2, c))

-- a seat whose calls for a line are few may raise it
pub may_raise : {S : Type 0} (slots id i bits core line : ℕ) (me : Me S View) → IsOne me.0
    → IsRun me.0.seen → i ≡ core → bits ≡ 2 ^ line → core < 2 → bits < 2 ^ 32
    → made me.0.core me.0.seen core line < 4294967295
    → Allows Ruled slots id me i (λ n. bit_or n bits) (TellsRaised (step slots i bits 0 maybe.none) me)
may_raise slots id i bits core line me one is e f small plain few =
    raises slots id i bits me one (omega arith) plain (λ k l. by_core k l (i == k) refl)
  where
    by_line : (l : ℕ) → made me.0.core me.0.seen core l + bit_at bits l ≤ 4294967295
    by_line l = dite (ℕ_discrete line l)
        (λ same. subst (λ l. made me.0.core me.0.seen core l + bit_at bits l ≤ 4294967295) same
        (let b = ap (λ x. bit_at x line) f ∙ bit_at-pow_same line in omega (arith, b)))
        (λ ne. let b = ap (λ x. bit_at x l) f ∙ bit_at-pow_other line l (λ e. ne (sym e)) in
        let h = is.few me.0.core core l in omega (arith, b, h))

    by_core : (k l : ℕ) (t : Bool) → (i == k) ≡ t
        → made me.0.core me.0.seen k l + (if t then bit_at bits l else 0) ≤ 4294967295
    by_core k l true test =
        subst (λ k. made me.0.core me.0.seen k l + bit_at bits l ≤ 4294967295)
        (sym e ∙ eqb-true i k test) (by_line l)
    by_core k l false test = let h = is.few me.0.core k l in omega (arith, h)

-- a seat may serve the lines of a core
pub may_serve : {S : Type 0} (slots id i kept_bits core mask : ℕ) (me : Me S View) → IsOut me.0
    → IsRun me.0.seen → i ≡ core → core < 2 → kept_bits ≡ bit_not w32 mask → mask < 2 ^ 32
    → Allows Ruled slots id me i (λ n. bit_and n kept_bits)
    (TellsServed (step slots i kept_bits 0 maybe.none) me)
may_serve slots id i kept_bits core mask me out is e small f plain =
    subst (λ x. Allows Ruled slots id me i (λ n. bit_and n x) (TellsServed (step slots i x 0 maybe.none) me))
    (sym f) (serves slots id i mask me out (omega arith) plain (λ k l. is.few me.0.core k l))

-- what a raise and a serve tell of the numbers of raises
pub told_once : {S : Type 0} (core line i bits n : ℕ) (me me' : Me S View) → i ≡ core
    → bits ≡ 2 ^ line → Tells (Raised i bits) i n me me' → RaisedOnce core line me.0 me'.0
told_once core line i bits n me me' e f t =
    let told : Tells (Raised core (2 ^ line)) core n me me' =
    subst (λ (z : ℕ × ℕ). Tells (Raised z.0 z.1) z.0 n me me') (λ k. (e k, f k)) t in
    raised_once core line n me.0 me'.0 told.1 (ap (λ m. m.0.core) told.0)

pub told_kept : {S : Type 0} (mask i n : ℕ) (me me' : Me S View) → Tells (Served i mask) i n me me'
    → RaisesAreKept me.0 me'.0
told_kept mask i n me me' t = raises_kept mask i n me.0 me'.0 t.1 (ap (λ m. m.0.core) t.0)
