-- Numbers tallied over runs: a run with more at its end, what a core has seen of it, and balance.
use Rattle.std.proofs.Common.{◌≡◌, ◌==◌, ◌≢◌, ℕ, zero, suc, ◌+◌, ◌*◌, ◌<◌, ◌≤◌, ◌++◌, ◌∙◌, ap, subst, sym, refl, Bool, true, false, List, [], ◌∷◌, slice_index, ne_eqb, eq-eqb, inl, inr, arith}
use Rattle.std.specs.Prelude.{if◌then◌else◌}
use mathlib.Core.Logic.{dite}
use native.Mathlib.Decide.{ℕ_discrete}
use Rattle.std.specs.Int.{bit_at}
use Rattle.std.proofs.lemmas.Nat.Bits.{bit_at-zero}
use Rattle.irq_lines.specs.declared.view.Act.{Act}
use Rattle.irq_lines.specs.declared.view.Entry.{Entry}
use Rattle.irq_lines.specs.Story.{entry, done_by, AreOfBothCores, IsPlain, ArePlain, word_by, word_after, pending, calls_in, fresh_in, served_in, tallied, made, raised, served, IsRun, Saw, Apart, Story, Balance}
use Rattle.irq_lines.specs.Rule.{BalancesAt, EveryStateBalances}
use Rattle.irq_lines.proofs.Bits.{step_even, fresh_le, fresh_or_set}

-- what holds of 0 and 1, and of 1 and 0, holds of the two cores
pub by_two : (P : ℕ → ℕ → Type 0) (c o : ℕ) → Apart c o → P 0 1 → P 1 0 → P c o
by_two P c o (inl e) a b =
    subst (λ (z : ℕ × ℕ). P z.0 z.1) (λ k. (sym e.0 k, sym e.1 k)) a
by_two P c o (inr e) a b =
    subst (λ (z : ℕ × ℕ). P z.0 z.1) (λ k. (sym e.0 k, sym e.1 k)) b

pub not_one : (c o : ℕ) → Apart c o → c ≢ o
not_one c o apart = by_two (λ c o. c ≢ o) c o apart (λ e. omega arith) (λ e. omega arith)

pub below_two : (c o : ℕ) → Apart c o → c < 2
below_two c o apart = by_two (λ c o. c < 2) c o apart (omega arith) (omega arith)

pub other_apart : (c o : ℕ) → Apart c o → Apart o c
other_apart c o (inl e) = inr (e.1, e.0)
other_apart c o (inr e) = inl (e.1, e.0)

-- the own entries of two parts
own_append : (c : ℕ) (a b : List Entry) → done_by c (a ++ b) ≡ done_by c a ++ done_by c b
own_append c [] b = refl
own_append c (e ∷ a) b = choose (e.by == c) (own_append c a b)
  where
    choose : (t : Bool) → done_by c (a ++ b) ≡ done_by c a ++ done_by c b
        → (if t then e ∷ done_by c (a ++ b) else done_by c (a ++ b))
        ≡ (if t then e ∷ done_by c a else done_by c a) ++ done_by c b
    choose true h = ap (λ x. e ∷ x) h
    choose false h = h

pub own_both : (c : ℕ) (a b : List Entry) → done_by c a ≡ [] → done_by c b ≡ []
    → done_by c (a ++ b) ≡ []
own_both c a b e f = own_append c a b ∙ (λ k. e k ++ f k)

-- where two parts have no own entries, the second has none
pub own_second : (c : ℕ) (a b : List Entry) → done_by c (a ++ b) ≡ [] → done_by c b ≡ []
own_second c [] b e = e
own_second c (x ∷ a) b e = choose (x.by == c) e (own_second c a b)
  where
    choose : (t : Bool)
        → (if t then x ∷ done_by c (a ++ b) else done_by c (a ++ b)) ≡ []
        → (done_by c (a ++ b) ≡ [] → done_by c b ≡ []) → done_by c b ≡ []
    choose true bad rest = absurd (cc bad)
    choose false is rest = rest is

-- an entry of a core is none of another one's
pub none_own : (c o : ℕ) (act : Act) → c ≢ o → done_by o (entry c act ∷ []) ≡ []
none_own c o act apart =
    ap (λ b. if b then entry c act ∷ [] else []) (ne_eqb c o apart)

-- a run with one more at its end
two_end : (es : List Entry) (e : Entry) → AreOfBothCores es → e.by < 2
    → AreOfBothCores (es ++ e ∷ [])
two_end [] e two small = (small, tt)
two_end (x ∷ es) e two small = (two.0, two_end es e two.1 small)

plain_end : (es : List Entry) (e : Entry) → ArePlain es → IsPlain e.act → ArePlain (es ++ e ∷ [])
plain_end [] e plain is = (is, tt)
plain_end (x ∷ es) e plain is = (plain.0, plain_end es e plain.1 is)

pub word_append : (k n : ℕ) (a b : List Entry)
    → word_after k n (a ++ b) ≡ word_after k (word_after k n a) b
word_append k n [] b = refl
word_append k n (e ∷ a) b = word_append k (word_by k n e.act) a b

module _ (f : ℕ → Act → ℕ) (k c : ℕ) where
  pub counted_append : (n : ℕ) (a b : List Entry)
      → tallied f k c n (a ++ b) ≡ tallied f k c n a + tallied f k c (word_after k n a) b
  counted_append n [] b = let m = tallied f k c n b in omega arith
  counted_append n (e ∷ a) b =
      let h = counted_append (word_by k n e.act) a b in omega (arith, h)

  -- entries of others count nothing
  pub counted_none : (n : ℕ) (es : List Entry) → done_by c es ≡ [] → tallied f k c n es ≡ 0
  counted_none n [] none = refl
  counted_none n (e ∷ es) none =
      choose (e.by == c) none (counted_none (word_by k n e.act) es)
    where
      choose : (t : Bool) → (if t then e ∷ done_by c es else done_by c es) ≡ []
          → (done_by c es ≡ [] → tallied f k c (word_by k n e.act) es ≡ 0)
          → (if t then f n e.act else 0) + tallied f k c (word_by k n e.act) es ≡ 0
      choose true bad rest = absurd (cc bad)
      choose false own rest = let h = rest own in omega arith

  -- what a core has seen has all that it counts
  pub counted_seen : (n : ℕ) (run seen : List Entry) → Saw run c seen
      → tallied f k c n run ≡ tallied f k c n seen
  counted_seen n run seen saw =
      let none = counted_none (word_after k n seen) saw.later saw.none_own in
      let parts = counted_append n seen saw.later in
      let split = ap (tallied f k c n) saw.splits in omega (arith, none, parts, split)

  -- the core's own last step
  pub counted_own : (n : ℕ) (es : List Entry) (act : Act)
      → tallied f k c n (es ++ entry c act ∷ [])
      ≡ tallied f k c n es + f (word_after k n es) act
  counted_own n es act =
      counted_append n es (entry c act ∷ [])
      ∙ ap (λ x. tallied f k c n es + x)
      (ap (λ b. (if b then f (word_after k n es) act else 0) + 0) (eq-eqb c c refl)
      ∙ plus_zero (f (word_after k n es) act))
    where
      plus_zero : (m : ℕ) → m + 0 ≡ m
      plus_zero m = omega arith

  -- a last step of another one
  pub counted_other : (n : ℕ) (es : List Entry) (d : ℕ) (act : Act) → d ≢ c
      → tallied f k c n (es ++ entry d act ∷ []) ≡ tallied f k c n es
  counted_other n es d act apart =
      let parts = counted_append n es (entry d act ∷ []) in
      let none = counted_none (word_after k n es) (entry d act ∷ []) (none_own d c act apart) in
      omega (arith, parts, none)

-- what counts no more at each step counts no more
counted_le : (f g : ℕ → Act → ℕ) (k c n : ℕ) (es : List Entry)
    → ((n : ℕ) (act : Act) → f n act ≤ g n act) → tallied f k c n es ≤ tallied g k c n es
counted_le f g k c n [] le = omega arith
counted_le f g k c n (e ∷ es) le =
    let h = counted_le f g k c (word_by k n e.act) es le in
    choose (e.by == c) (le n e.act) h
  where
    choose : (t : Bool) → f n e.act ≤ g n e.act
        → tallied f k c (word_by k n e.act) es ≤ tallied g k c (word_by k n e.act) es
        → (if t then f n e.act else 0) + tallied f k c (word_by k n e.act) es
        ≤ (if t then g n e.act else 0) + tallied g k c (word_by k n e.act) es
    choose true a b = omega arith
    choose false a b = omega arith

-- the sum over both cores is, step by step, that of the one whose step it was
abbrev both : (ℕ → Act → ℕ) → ℕ → ℕ → List Entry → ℕ
both f k n es = tallied f k 0 n es + tallied f k 1 n es

both_step : (f : ℕ → Act → ℕ) (k n : ℕ) (e : Entry) (es : List Entry) → e.by < 2
    → both f k n (e ∷ es) ≡ f n e.act + both f k (word_by k n e.act) es
both_step f k n e es small = by_core e.by small
  where
    by_core : (c : ℕ) → c < 2
        → ((if c == 0 then f n e.act else 0) + tallied f k 0 (word_by k n e.act) es)
        + ((if c == 1 then f n e.act else 0) + tallied f k 1 (word_by k n e.act) es)
        ≡ f n e.act + both f k (word_by k n e.act) es
    by_core zero small = omega arith
    by_core (suc zero) small = omega arith
    by_core (suc (suc c)) small = absurd (omega arith)

module _ (k l : ℕ) (line : l < 32) where
  -- raises that found the line clear are serves and the pending bit
  run_even : (n : ℕ) (es : List Entry) → AreOfBothCores es → ArePlain es
      → both (fresh_in k l) k n es + bit_at n l
      ≡ both (served_in k l) k n es + bit_at (word_after k n es) l
  run_even n [] two plain = refl
  run_even n (e ∷ es) two plain =
      let m = word_by k n e.act in let rest = run_even m es two.1 plain.1 in
      let here = step_even k l n line e.act plain.0 in
      let a = both_step (fresh_in k l) k n e es two.0 in
      let b = both_step (served_in k l) k n e es two.0 in omega (arith, rest, here, a, b)

  -- a line that was called for was found clear, or was pending
  run_least : (n : ℕ) (es : List Entry) → AreOfBothCores es → ArePlain es
      → 1 ≤ both (calls_in k l) k n es → 1 ≤ both (fresh_in k l) k n es + bit_at n l
  run_least n [] two plain called = absurd (omega arith)
  run_least n (e ∷ es) two plain called =
      let m = word_by k n e.act in
      let here = step_even k l n line e.act plain.0 in
      let a = both_step (fresh_in k l) k n e es two.0 in
      let b = both_step (calls_in k l) k n e es two.0 in
      last (calls_in k l n e.act) (both (calls_in k l) k m es) (fresh_in k l n e.act)
      (both (fresh_in k l) k m es) (bit_at n l) (served_in k l n e.act) (bit_at m l)
      _ _ a b here (fresh_or_set k l n line e.act) (run_least m es two.1 plain.1) called
    where
      last : (x y f g bit s bit' : ℕ) (all calls : ℕ) → all ≡ f + g → calls ≡ x + y
          → f + bit ≡ s + bit' → (1 ≤ x → 1 ≤ f + bit) → (1 ≤ y → 1 ≤ g + bit') → 1 ≤ calls
          → 1 ≤ all + bit
      last zero y f g bit s bit' all calls a b here first rest called =
          let h = rest (omega arith) in omega arith
      last (suc x) y f g bit s bit' all calls a b here first rest called =
          let h = first (omega arith) in omega arith

  -- a whole run balances
  pub run_balances : (es : List Entry) → AreOfBothCores es → ArePlain es
      → Balance (both (calls_in k l) k 0 es) (both (fresh_in k l) k 0 es)
      (both (served_in k l) k 0 es) (bit_at (pending es k) l)
  run_balances es two plain =
      let clear = bit_at-zero l in
      let even = run_even 0 es two plain in
      let left = counted_le (fresh_in k l) (calls_in k l) k 0 0 es (λ n act. fresh_le k l n line act) in
      let right =
      counted_le (fresh_in k l) (calls_in k l) k 1 0 es (λ n act. fresh_le k l n line act) in
      let least = run_least 0 es two plain in record {
        even = omega (arith, clear, even);
        at_most = omega (arith, left, right);
        at_least = λ called. let h = least called in omega (arith, clear, h);
      }

-- in a run, of which both have seen beginnings, each line balances over what they have seen
pub balances : (words : List ℕ) (c o : ℕ) (mine theirs : List Entry) → Apart c o
    → Story words c o mine theirs → (k l : ℕ) → k < 2 → l < 32
    → BalancesAt words c o mine theirs k l
balances words c o mine theirs apart s k l small line =
    subst (λ (z : ℕ × ℕ × ℕ × ℕ). Balance z.0 z.1 z.2 z.3)
    (λ i. (
      sums (calls_in k l) i,
      sums (fresh_in k l) i,
      sums (served_in k l) i,
      bit_at (word k small i) l,
    )) (run_balances k l line s.run s.is_run.two s.is_run.plain)
  where
    sums : (f : ℕ → Act → ℕ)
        → both f k 0 s.run ≡ tallied f k c 0 mine + tallied f k o 0 theirs
    sums f =
        let a = counted_seen f k c 0 s.run mine s.saw in
        let b = counted_seen f k o 0 s.run theirs s.saw' in
        by_two
        (λ c o. both f k 0 s.run ≡ tallied f k c 0 s.run + tallied f k o 0 s.run)
        c o apart refl (omega arith) ∙ (λ i. a i + b i)

    word : (k : ℕ) → k < 2 → pending s.run k ≡ slice_index words k
    word zero small = sym (ap (λ ws. slice_index ws 0) s.numbers)
    word (suc zero) small = sym (ap (λ ws. slice_index ws 1) s.numbers)
    word (suc (suc k)) small = absurd (omega arith)

-- the end of a run with one more step of a core, whose calls stay few
pub run_end : (run : List Entry) (c : ℕ) (act : Act) → IsRun run → c < 2 → IsPlain act
    → ((k l : ℕ) → made c run k l + calls_in k l (pending run k) act ≤ 4294967295)
    → IsRun (run ++ entry c act ∷ [])
run_end run c act is small plain few = record {
  two = two_end run (entry c act) is.two small;
  plain = plain_end run (entry c act) is.plain plain;
  few = λ d k l. dite (ℕ_discrete c d)
      (λ e. subst (λ d. made d (run ++ entry c act ∷ []) k l ≤ 4294967295) e
      (let h = counted_own (calls_in k l) k c 0 run act in let few' = few k l in
      omega (arith, h, few')))
      (λ ne. let h = counted_other (calls_in k l) k d 0 run c act ne in
      let few' = is.few d k l in omega (arith, h, few'));
}

-- whatever state meets the rule, each line balances
pub every_state_is_even : {S : Type 0} → EveryStateBalances S
every_state_is_even = (
  λ s p k l small line.
      subst (λ (z : ℕ × ℕ). BalancesAt s.words z.0 z.1 p.left.seen p.right.seen k l)
      (λ i. (sym p.there.left_is.0 i, sym p.there.right_is.0 i))
      (balances s.words 0 1 p.left.seen p.right.seen (inl (refl, refl)) p.there.story k l small
      line),
  λ s j k l small line.
      balances s.words j.joined.core j.joined.other j.joined.seen j.joined.other_seen j.there.apart
      j.there.story k l small line,
)

-- the numbers of a core in a run: calls are few, and so are all others
pub numbers_fit : (run : List Entry) → IsRun run → (c : ℕ) → c < 2 → (k l : ℕ) → l < 32
    → (made c run k l ≤ 4294967295) × (raised c run k l ≤ 4294967295)
    × (served c run k l ≤ 2 * 4294967295)
numbers_fit run is c small k l line =
    let calls = is.few c k l in
    let fresh = counted_le (fresh_in k l) (calls_in k l) k c 0 run (λ n act. fresh_le k l n line act) in
    let b = run_balances k l line run is.two is.plain in
    let all = b.at_most in let even = b.even in
    let left = is.few 0 k l in let right = is.few 1 k l in
    (calls, omega arith, by_core c small (omega arith))
  where
    by_core : (c : ℕ) → c < 2
        → both (served_in k l) k 0 run ≤ 2 * 4294967295 → served c run k l ≤ 2 * 4294967295
    by_core zero small h = omega arith
    by_core (suc zero) small h = omega arith
    by_core (suc (suc c)) small h = absurd (omega arith)
