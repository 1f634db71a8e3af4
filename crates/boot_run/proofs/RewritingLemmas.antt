-- The steps of rewrites, one after the other.
use Rattle.std.proofs.Common.{◌≡◌, ◌<◌, ℕ, suc, ◌+◌, List, [], ◌∷◌, ◌++◌, length, get_or, take, drop, Option, refl, sym, ap, ◌∙◌, subst, arith, take-append-drop}
use Rattle.std.proofs.Math.Seq.{take-suc}
use Rattle.std.proofs.lemmas.List.{append_assoc, append-nil}
use Rattle.nor_device.specs.declared.step.Step.{Step}
use Rattle.nor_device.specs.declared.nor.StepEnd.{StepEnd}
use Rattle.nor_device.specs.declared.nor.NorFault.{NorFault}
use Rattle.rollback.specs.declared.rewrite.Rewrite.{Rewrite}
use Rattle.boot_run.specs.Made.{AreMade, AreMissed}
use Rattle.boot_run.specs.Rewriting.{rewrite, rewrites}
use Rattle.boot_run.proofs.MadeLemmas.{made_both, missed_front, missed_back}

-- the steps of two lists of rewrites
pub rewrites_append : (otadata : ℕ) (front back : List Rewrite)
    → rewrites otadata (front ++ back) ≡ rewrites otadata front ++ rewrites otadata back
rewrites_append otadata [] back = refl
rewrites_append otadata (write ∷ front) back =
    ap (λ steps. rewrite otadata write ++ steps) (rewrites_append otadata front back)
    ∙ sym (append_assoc (rewrite otadata write) (rewrites otadata front) (rewrites otadata back))

-- one rewrite more
pub rewrites_next : (otadata : ℕ) (writes : List Rewrite) (i : ℕ) (d : Rewrite) → i < length writes
    → rewrites otadata (take i writes) ++ rewrite otadata (get_or writes i d)
    ≡ rewrites otadata (take (i + 1) writes)
rewrites_next otadata writes i d inside =
    let next : i + 1 ≡ suc i = omega arith in
    ap (λ steps. rewrites otadata (take i writes) ++ steps)
    (sym (append-nil (rewrite otadata (get_or writes i d))))
    ∙ sym (rewrites_append otadata (take i writes) (get_or writes i d ∷ []))
    ∙ ap (rewrites otadata) (sym (take-suc writes i d inside) ∙ ap (λ n. take n writes) (sym next))

-- those in front and those that follow are all of them
pub rewrites_split : (otadata : ℕ) (writes : List Rewrite) (i : ℕ)
    → rewrites otadata (take i writes) ++ rewrites otadata (drop i writes) ≡ rewrites otadata writes
rewrites_split otadata writes i =
    sym (rewrites_append otadata (take i writes) (drop i writes))
    ∙ ap (rewrites otadata) (take-append-drop i writes)

module _ {S : Type 0} (may_end : S → ℕ → StepEnd → Type 0)
    (may_tear : S → ℕ → List ℕ → Step → List ℕ → Type 0)
    (may_refuse : S → ℕ → NorFault → Type 0) (must_refuse : S → ℕ → Type 0) where
  -- one rewrite more is made
  pub made_next : (set after : S) (otadata : ℕ) (writes : List Rewrite) (i : ℕ) (d : Rewrite)
      (count mid now : ℕ) (old told new : Option (List ℕ)) → i < length writes → after ≡ set
      → AreMade may_end may_tear may_refuse must_refuse set (rewrites otadata (take i writes)) count
      mid old told
      → AreMade may_end may_tear may_refuse must_refuse after (rewrite otadata (get_or writes i d))
      mid now told new
      → AreMade may_end may_tear may_refuse must_refuse set (rewrites otadata (take (i + 1) writes))
      count now old new
  made_next set after otadata writes i d count mid now old told new inside same one two =
      let next = subst (λ s. AreMade may_end may_tear may_refuse must_refuse s
      (rewrite otadata (get_or writes i d)) mid now told new) same two in
      subst (λ steps. AreMade may_end may_tear may_refuse must_refuse set steps count now old new)
      (rewrites_next otadata writes i d inside)
      (made_both may_end may_tear may_refuse must_refuse set (rewrites otadata (take i writes))
      (rewrite otadata (get_or writes i d)) count mid now old told new one next)

  -- behind those that are made, one was missed
  pub missed_next : (set after : S) (otadata : ℕ) (writes : List Rewrite) (i : ℕ) (d : Rewrite)
      (count mid now : ℕ) (old told new : Option (List ℕ)) (why : NorFault) → i < length writes
      → after ≡ set
      → AreMade may_end may_tear may_refuse must_refuse set (rewrites otadata (take i writes)) count
      mid old told
      → AreMissed may_end may_tear may_refuse must_refuse after
      (rewrite otadata (get_or writes i d)) mid now told new why
      → AreMissed may_end may_tear may_refuse must_refuse set (rewrites otadata writes) count now
      old new why
  missed_next set after otadata writes i d count mid now old told new why inside same one missed =
      let it = rewrite otadata (get_or writes i d) in
      let front = rewrites otadata (take i writes) in
      let back = rewrites otadata (drop (i + 1) writes) in
      let all : (front ++ it) ++ back ≡ rewrites otadata writes =
      ap (λ steps. steps ++ back) (rewrites_next otadata writes i d inside)
      ∙ rewrites_split otadata writes (i + 1) in
      let next = subst (λ s. AreMissed may_end may_tear may_refuse must_refuse s it mid now told new
      why) same missed in
      subst (λ steps. AreMissed may_end may_tear may_refuse must_refuse set steps count now old new
      why) all
      (missed_front may_end may_tear may_refuse must_refuse set (front ++ it) back count now old new
      why
      (missed_back may_end may_tear may_refuse must_refuse set front it count mid now old told new
      why one next))
