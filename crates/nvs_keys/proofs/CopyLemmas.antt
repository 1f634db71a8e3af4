-- The copies of the live records of a bank give its live changes, in as many slots.
use Rattle.std.proofs.Common.{◌≡◌, ◌≤◌, ◌<◌, ℕ, zero, suc, ◌+◌, ◌*◌, Bool, true, false, cond, List, [], ◌∷◌, ◌++◌, length, drop, Option, None, Some, refl, sym, ap, ◌∙◌, inl, inr, arith}
use Rattle.std.specs.List.{All}
use Rattle.std.proofs.lemmas.Bool.{both_ways}
use Rattle.std.proofs.lemmas.List.{length-take}
use Rattle.std.proofs.lemmas.List.Elements.{All-drop, All-take}
use Rattle.nor_device.specs.declared.step.Step.{Step}
use Rattle.nor_device.specs.Flash.{after_steps}
use Rattle.nor_device.specs.Nor.{part_of}
use Rattle.nor_device.proofs.EraseLaws.{length-part}
use Rattle.nor_device.proofs.FlashLaws.{after_steps_append, length-after_steps}
use Rattle.crash_images.specs.Agrees.{Agrees, IsBeside, StepsWithin}
use Rattle.crash_images.proofs.AgreesLaws.{agrees_part, left_agrees}
use Rattle.crash_images.proofs.LeftLaws.{left_end}
use Rattle.nvs_keys.specs.Changes.{Change, is_live, live}
use Rattle.nvs_keys.specs.Slots.{changes, cons_option, given, slot_of}
use Rattle.nvs_keys.specs.Steps.{copies, put_steps}
use Rattle.nvs_keys.proofs.SlotLemmas.{given_copied}
use Rattle.nvs_keys.proofs.PutLemmas.{Erased, changes_blank, erased_agrees, put_done, put_within}

-- ---- ranges of steps

pub steps_wider : (start end low high : ℕ) (steps : List Step) → low ≤ start → end ≤ high
    → StepsWithin start end steps → StepsWithin low high steps
steps_wider start end low high [] from to within = tt
steps_wider start end low high (step ∷ steps) from to within = (
  record { from = omega (arith, within.0.from); to = omega (arith, within.0.to) },
  steps_wider start end low high steps from to within.1,
)

pub steps_append : (start end : ℕ) (front back : List Step) → StepsWithin start end front
    → StepsWithin start end back → StepsWithin start end (front ++ back)
steps_append start end [] back one two = two
steps_append start end (step ∷ front) back one two = (one.0, steps_append start end front back one.1 two)

-- what steps in a range leave outside it
pub steps_agree : (start end : ℕ) (flash : List ℕ) (steps : List Step)
    → StepsWithin start end steps → Agrees (IsBeside start end) flash (after_steps flash steps)
steps_agree start end flash steps within =
    left_agrees start end flash steps (after_steps flash steps) within (left_end flash steps)

-- ---- the live changes of a bank, slot by slot

-- a slot that is live has a change, which is the first of the live ones
live_first : (o : Option Change) (cs : List Change) → is_live o cs ≡ true
    → (c : Change) × (o ≡ Some c) × (live (cons_option o cs) ≡ c ∷ live cs)
live_first None cs is = absurd (both_ways false refl is)
live_first (Some c) cs is =
    (c, refl, ap (λ (b : Bool). cond b (c ∷ live cs) (live cs)) is)

-- of a slot that isn't live there is none
live_none : (o : Option Change) (cs : List Change) → is_live o cs ≡ false
    → live (cons_option o cs) ≡ live cs
live_none None cs is = refl
live_none (Some c) cs is = ap (λ (b : Bool). cond b (c ∷ live cs) (live cs)) is

-- ---- the copies stay in as many slots as there are live changes

length_bytes : (flash : List ℕ) (from : ℕ) → length (part_of flash from 51) ≤ 51
length_bytes flash from = omega (arith, length-take 51 (drop from flash))

pub copies_within : (flash : List ℕ) (from n to : ℕ)
    → StepsWithin to (to + 64 * length (live (changes flash from n))) (copies flash from n to)
copies_within flash from zero to = tt
copies_within flash from (suc n) to =
    by (is_live (given (part_of flash from 64)) (changes flash (from + 64) n)) refl
    (copies_within flash (from + 64) n)
  where
    by : (b : Bool) → is_live (given (part_of flash from 64)) (changes flash (from + 64) n) ≡ b
        → ((at : ℕ) → StepsWithin at (at + 64 * length (live (changes flash (from + 64) n))) (copies flash (from + 64) n at))
        → StepsWithin to (to + 64 * length (live (cons_option (given (part_of flash from 64)) (changes flash (from + 64) n))))
        (cond b (put_steps to (part_of flash (from + 1) 51) ++ copies flash (from + 64) n (to + 64))
        (copies flash (from + 64) n to))
    by true is rest =
        let first = live_first (given (part_of flash from 64)) (changes flash (from + 64) n) is in
        let more : length (live (cons_option (given (part_of flash from 64)) (changes flash (from + 64) n)))
        ≡ suc (length (live (changes flash (from + 64) n))) = ap length first.2 in
        let end : ℕ = to + 64 * length (live (cons_option (given (part_of flash from 64)) (changes flash (from + 64) n))) in
        steps_append to end (put_steps to (part_of flash (from + 1) 51)) (copies flash (from + 64) n (to + 64))
        (steps_wider to (to + 64) to end (put_steps to (part_of flash (from + 1) 51)) (omega arith) (omega (arith, more))
        (put_within to (part_of flash (from + 1) 51) (length_bytes flash (from + 1))))
        (steps_wider (to + 64) (to + 64 + 64 * length (live (changes flash (from + 64) n))) to end
        (copies flash (from + 64) n (to + 64)) (omega arith) (omega (arith, more)) (rest (to + 64)))
    by false is rest =
        let same : length (live (cons_option (given (part_of flash from 64)) (changes flash (from + 64) n)))
        ≡ length (live (changes flash (from + 64) n)) = ap length (live_none (given (part_of flash from 64)) (changes flash (from + 64) n) is) in
        steps_wider to (to + 64 * length (live (changes flash (from + 64) n))) to
        (to + 64 * length (live (cons_option (given (part_of flash from 64)) (changes flash (from + 64) n))))
        (copies flash (from + 64) n to) (omega arith) (omega (arith, same)) (rest to)

-- ---- and give them

-- what the copies of so many slots give in free slots, wherever they are put
abbrev Copied : List ℕ → ℕ → ℕ → Type 0
Copied flash from n =
    (to many : ℕ) (now : List ℕ) → to + 64 * many ≤ length now → Erased to (to + 64 * many) now
    → length (live (changes flash from n)) ≤ many
    → changes (after_steps now (copies flash from n to)) to many ≡ live (changes flash from n)

module _ (flash : List ℕ) (small : All (λ b. b < 256) flash) where
  -- a record that is copied in front of the others
  copied_first : (from n : ℕ) (c : Change) → from + 64 ≤ length flash
      → given (part_of flash from 64) ≡ Some c → Copied flash (from + 64) n
      → (to many : ℕ) (now : List ℕ) → to + 64 * suc many ≤ length now
      → Erased to (to + 64 * suc many) now → length (live (changes flash (from + 64) n)) ≤ many
      → changes (after_steps now (put_steps to (part_of flash (from + 1) 51) ++ copies flash (from + 64) n (to + 64))) to (suc many)
      ≡ c ∷ live (changes flash (from + 64) n)
  copied_first from n c inside is rest to many now fits erased room =
      let P : ℕ → Type 0 = λ b. b < 256 in
      let bytes : List ℕ = part_of flash (from + 1) 51 in
      let size : length bytes ≡ 51 = length-part flash (from + 1) 51 (omega arith) in
      let steps : List Step = put_steps to bytes in
      let later : List Step = copies flash (from + 64) n (to + 64) in
      let mid : List ℕ = after_steps now steps in
      let end : List ℕ = after_steps mid later in
      let first = steps_agree to (to + 64) now steps (put_within to bytes (omega (arith, size))) in
      let long : length mid ≡ length now = length-after_steps now steps in
      let free : Erased (to + 64) (to + 64 + 64 * many) mid =
      erased_agrees (IsBeside to (to + 64)) (to + 64) (to + 64 + 64 * many) now mid (omega arith)
      (λ i low high. inr low) first (λ i low high. erased i (omega arith) (omega arith)) in
      let others : changes end (to + 64) many ≡ live (changes flash (from + 64) n) =
      rest (to + 64) many mid (omega (arith, long)) free room in
      let high : ℕ = to + 64 + 64 * length (live (changes flash (from + 64) n)) in
      let kept : part_of end to 64 ≡ part_of mid to 64 =
      agrees_part (IsBeside (to + 64) high) mid end to 64 (λ i low up. inl up)
      (steps_agree (to + 64) high mid later (copies_within flash (from + 64) n (to + 64))) in
      let one : given (part_of mid to 64) ≡ given (slot_of 0 bytes) =
      put_done now to bytes (omega arith) size
      (All-take P 51 (drop (from + 1) flash) (All-drop P (from + 1) flash small))
      (λ i low up. erased i low (omega arith)) in
      let gives : given (part_of end to 64) ≡ Some c =
      ap given kept ∙ one ∙ given_copied flash from c inside is in
      ap (λ (f : List ℕ). changes f to (suc many)) (after_steps_append now steps later)
      ∙ ap (λ (o : Option Change). cons_option o (changes end (to + 64) many)) gives
      ∙ ap (λ (cs : List Change). c ∷ cs) others

  pub copied : (from n : ℕ) → from + 64 * n ≤ length flash → Copied flash from n
  copied from zero inside = λ to many now fits erased room. changes_blank many to now erased
  copied from (suc n) inside =
      by (is_live (given (part_of flash from 64)) (changes flash (from + 64) n)) refl
      (copied (from + 64) n (omega arith))
    where
      by : (b : Bool) → is_live (given (part_of flash from 64)) (changes flash (from + 64) n) ≡ b
          → Copied flash (from + 64) n
          → (to many : ℕ) (now : List ℕ) → to + 64 * many ≤ length now → Erased to (to + 64 * many) now
          → length (live (cons_option (given (part_of flash from 64)) (changes flash (from + 64) n))) ≤ many
          → changes (after_steps now (cond b
          (put_steps to (part_of flash (from + 1) 51) ++ copies flash (from + 64) n (to + 64))
          (copies flash (from + 64) n to))) to many
          ≡ live (cons_option (given (part_of flash from 64)) (changes flash (from + 64) n))
      by true is rest to zero now fits erased room =
          let first = live_first (given (part_of flash from 64)) (changes flash (from + 64) n) is in
          absurd (omega (arith, ap length first.2, room))
      by true is rest to (suc many) now fits erased room =
          let first = live_first (given (part_of flash from 64)) (changes flash (from + 64) n) is in
          let fewer : length (live (changes flash (from + 64) n)) ≤ many = omega (arith, ap length first.2, room) in
          copied_first from n first.0 (omega arith) first.1 rest to many now fits erased fewer ∙ sym first.2
      by false is rest to many now fits erased room =
          let none = live_none (given (part_of flash from 64)) (changes flash (from + 64) n) is in
          rest to many now fits erased (omega (arith, ap length none, room)) ∙ sym none

-- ---- the bank that was copied

-- behind the copies each byte of the slots that are left is 0xFF
pub copied_blank : (flash : List ℕ) (from n to many : ℕ) (now : List ℕ) → to + 64 * many ≤ length now
    → Erased to (to + 64 * many) now
    → Erased (to + 64 * length (live (changes flash from n))) (to + 64 * many) (after_steps now (copies flash from n to))
copied_blank flash from n to many now fits erased =
    let end : ℕ = to + 64 * length (live (changes flash from n)) in
    erased_agrees (IsBeside to end) end (to + 64 * many) now (after_steps now (copies flash from n to)) fits
    (λ i low up. inr low) (steps_agree to end now (copies flash from n to) (copies_within flash from n to))
    (λ i low up. erased i (omega arith) up)
