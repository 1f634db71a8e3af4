-- Writes, erases and reads in their quiet periods.
use Rattle.std.proofs.Common.{◌≡◌, ℕ, zero, suc, ◌+◌, ◌-◌, ◌*◌, ◌/◌, ◌%◌, ◌<◌, ◌≤◌, ◌++◌, ◌∙◌, ap, subst, sym, refl, arith, inl, inr, Bool, true, false, List, [], ◌∷◌, length, take, drop, Option, None, append-nil, append_assoc, length-append, length-take, length-drop}
use Rattle.std.specs.Prelude.{◌==◌}
use Rattle.std.proofs.lemmas.Bool.{cases_lt}
use Rattle.std.proofs.lemmas.Bool.Decides.{nat_tests}
use Rattle.std.proofs.lemmas.List.{take-append-drop, take_all, take_at}
use Rattle.std.proofs.Math.Seq.{drop-append_seam}
use Rattle.std.proofs.Math.ListN.{drop_of_length-le}
use Rattle.nor_device.specs.declared.step.Step.{Step}
use Rattle.nor_device.specs.declared.step.Step.TheVariants.{Erase}
use Rattle.flash_steps.specs.Steps.{write_steps, erase_steps, erases, pages_in}
use Rattle.flash_steps.proofs.WriteLemmas.{count_of_write, pieces_of_write, no_steps}
use Rattle.flash_steps.proofs.EraseLemmas.{count_of_erase, pieces_of_erase}
use Rattle.flash_ops.specs.Moves.{Move, Make, Ask, makes, looks, asks, one_by_one, by_sixteen, periods_of, erase_moves, write_moves, read_moves, steps_of, entries_for, bytes_for}
use Rattle.flash_ops.proofs.Runs.{steps_of-append, entries_for-append, bytes_for-append, makes-append, steps_of_makes, steps_of_looks, entries_for_makes, bytes_for_makes}

-- ---- quiet periods of at most sixteen steps

-- all in one
one_period : (probe : Option ℕ) (steps : List Step) → 1 ≤ length steps → length steps ≤ 16
    → by_sixteen (periods_of steps) probe steps ≡ makes steps ++ looks probe
one_period probe steps some few =
    let one : periods_of steps ≡ suc zero = omega arith in
    ap (λ (n : ℕ). by_sixteen n probe steps) one
    ∙ ap (λ (s : List Step). makes s ++ (looks probe ++ [])) (take_all 16 steps few)
    ∙ ap (λ (m : List Move). makes steps ++ m) (append-nil (looks probe))

-- sixteen in front of others
more_periods : (probe : Option ℕ) (a b : List Step) → length a ≡ 16
    → by_sixteen (periods_of (a ++ b)) probe (a ++ b)
    ≡ (makes a ++ looks probe) ++ by_sixteen (periods_of b) probe b
more_periods probe a b size =
    let long = length-append a b in
    let count : periods_of (a ++ b) ≡ suc (periods_of b) = omega arith in
    let first : take 16 (a ++ b) ≡ a = take_at a b 16 size in
    let rest : drop 16 (a ++ b) ≡ b =
    ap (λ (n : ℕ). drop n (a ++ b)) (sym size) ∙ drop-append_seam a b in
    ap (λ (n : ℕ). by_sixteen n probe (a ++ b)) count
    ∙ (λ i. makes (first i) ++ (looks probe ++ by_sixteen (periods_of b) probe (rest i)))
    ∙ sym (append_assoc (makes a) (looks probe) (by_sixteen (periods_of b) probe b))

-- so many times sixteen in front of others
sixteens : (n : ℕ) (probe : Option ℕ) (a b : List Step) → length a ≡ 16 * n
    → by_sixteen (periods_of (a ++ b)) probe (a ++ b)
    ≡ by_sixteen (periods_of a) probe a ++ by_sixteen (periods_of b) probe b
sixteens zero probe [] b size = refl
sixteens zero probe (x ∷ a) b size = absurd (omega arith)
sixteens (suc n) probe a b size =
    let first = take 16 a in
    let rest = drop 16 a in
    let whole : first ++ rest ≡ a = take-append-drop 16 a in
    let short : length first ≡ 16 = let e = length-take 16 a in omega arith in
    let later : length rest ≡ 16 * n = let e = length-drop 16 a in omega arith in
    let tail = by_sixteen (periods_of rest) probe rest in
    let last = by_sixteen (periods_of b) probe b in
    ap (λ (s : List Step). by_sixteen (periods_of (s ++ b)) probe (s ++ b)) (sym whole)
    ∙ ap (λ (s : List Step). by_sixteen (periods_of s) probe s) (append_assoc first rest b)
    ∙ more_periods probe first (rest ++ b) short
    ∙ ap (λ (m : List Move). (makes first ++ looks probe) ++ m) (sixteens n probe rest b later)
    ∙ sym (append_assoc (makes first ++ looks probe) tail last)
    ∙ ap (λ (m : List Move). m ++ last) (sym (more_periods probe first rest short))
    ∙ ap (λ (s : List Step). by_sixteen (periods_of s) probe s ++ last) whole

-- no more than these steps are made
steps_by_sixteen : (n : ℕ) (probe : Option ℕ) (steps : List Step) → length steps ≤ 16 * n
    → steps_of (by_sixteen n probe steps) ≡ steps
steps_by_sixteen zero probe [] few = refl
steps_by_sixteen zero probe (x ∷ steps) few = absurd (omega arith)
steps_by_sixteen (suc n) probe steps few =
    let later : length (drop 16 steps) ≤ 16 * n = let e = length-drop 16 steps in omega arith in
    steps_of-append (makes (take 16 steps)) (looks probe ++ by_sixteen n probe (drop 16 steps))
    ∙ ap (λ (s : List Step). s ++ steps_of (looks probe ++ by_sixteen n probe (drop 16 steps)))
    (steps_of_makes (take 16 steps))
    ∙ ap (λ (s : List Step). take 16 steps ++ s)
    (steps_of-append (looks probe) (by_sixteen n probe (drop 16 steps))
    ∙ ap (λ (s : List Step). s ++ steps_of (by_sixteen n probe (drop 16 steps)))
    (steps_of_looks probe)
    ∙ steps_by_sixteen n probe (drop 16 steps) later)
    ∙ take-append-drop 16 steps

-- with no look, they are these steps
blind_by_sixteen : (n : ℕ) (steps : List Step) → length steps ≤ 16 * n
    → by_sixteen n None steps ≡ makes steps
blind_by_sixteen zero [] few = refl
blind_by_sixteen zero (x ∷ steps) few = absurd (omega arith)
blind_by_sixteen (suc n) steps few =
    let later : length (drop 16 steps) ≤ 16 * n = let e = length-drop 16 steps in omega arith in
    ap (λ (m : List Move). makes (take 16 steps) ++ m) (blind_by_sixteen n (drop 16 steps) later)
    ∙ sym (makes-append (take 16 steps) (drop 16 steps))
    ∙ ap makes (take-append-drop 16 steps)

-- what they need of the room
entries_by_sixteen : (n : ℕ) (probe : Option ℕ) (steps : List Step) → length steps ≤ 16 * n
    → entries_for (by_sixteen n probe steps)
    ≡ 2 * length steps + n * entries_for (looks probe)
entries_by_sixteen zero probe [] few = grind arith
entries_by_sixteen zero probe (x ∷ steps) few = absurd (omega arith)
entries_by_sixteen (suc n) probe steps few =
    let behind = by_sixteen n probe (drop 16 steps) in
    let cut = length-drop 16 steps in
    let front = length-take 16 steps in
    let later : length (drop 16 steps) ≤ 16 * n = omega arith in
    let rest = entries_by_sixteen n probe (drop 16 steps) later in
    let e = entries_for-append (makes (take 16 steps)) (looks probe ++ behind) in
    let f = entries_for-append (looks probe) behind in
    let g = entries_for_makes (take 16 steps) in
    let times : suc n * entries_for (looks probe)
    ≡ entries_for (looks probe) + n * entries_for (looks probe) = grind arith in
    omega arith

bytes_by_sixteen : (n : ℕ) (probe : Option ℕ) (steps : List Step)
    → bytes_for (by_sixteen n probe steps) ≡ n * bytes_for (looks probe)
bytes_by_sixteen zero probe steps = grind arith
bytes_by_sixteen (suc n) probe steps =
    let behind = by_sixteen n probe (drop 16 steps) in
    let rest = bytes_by_sixteen n probe (drop 16 steps) in
    let e = bytes_for-append (makes (take 16 steps)) (looks probe ++ behind) in
    let f = bytes_for-append (looks probe) behind in
    let g = bytes_for_makes (take 16 steps) in
    let times : suc n * bytes_for (looks probe)
    ≡ bytes_for (looks probe) + n * bytes_for (looks probe) = grind arith in
    omega arith

enough_periods : (steps : List Step) → length steps ≤ 16 * periods_of steps
enough_periods steps = omega arith

-- ---- writes

-- no byte, no move
pub write_nothing : (probe : Option ℕ) (at : ℕ) → write_moves probe at [] ≡ []
unfolding write_moves
write_nothing probe at =
    ap (λ (s : List Step). by_sixteen (periods_of s) probe s) (no_steps at)

pub pages_are : (at len : ℕ) → 1 ≤ len → pages_in at len ≡ (at % 256 + len + 255) / 256
unfolding pages_in
pages_are at len some = by (len == 0) refl
  where
    by : (none : Bool) → (len == 0) ≡ none → pages_in at len ≡ (at % 256 + len + 255) / 256
    by true is = absurd (grind (arith, nat_tests))
    by false is = rw is refl

pub few_pages : (at len : ℕ) → 1 ≤ len → len ≤ 4096 - at % 256
    → (1 ≤ pages_in at len) × (pages_in at len ≤ 16)
few_pages at len some few = let n = pages_are at len some in (omega arith, omega arith)

pub all_pages : (at len : ℕ) → len ≡ 4096 - at % 256 → pages_in at len ≡ 16
all_pages at len is = let n = pages_are at len (omega arith) in omega arith

-- bytes of one quiet period
pub write_last : (probe : Option ℕ) (at : ℕ) (bytes : List ℕ) → 1 ≤ length bytes
    → length bytes ≤ 4096 - at % 256
    → write_moves probe at bytes ≡ makes (write_steps at bytes) ++ looks probe
unfolding write_moves
write_last probe at bytes some few =
    let n = few_pages at (length bytes) some few in
    let c = count_of_write at bytes in
    one_period probe (write_steps at bytes) (omega arith) (omega arith)

-- a whole quiet period in front of others
pub write_more : (probe : Option ℕ) (at : ℕ) (first rest : List ℕ)
    → length first ≡ 4096 - at % 256
    → write_moves probe at (first ++ rest)
    ≡ (makes (write_steps at first) ++ looks probe) ++ write_moves probe (at + length first) rest
unfolding write_moves
write_more probe at first rest size =
    ap (λ (s : List Step). by_sixteen (periods_of s) probe s)
    (pieces_of_write at first rest (omega arith))
    ∙ more_periods probe (write_steps at first) (write_steps (at + length first) rest)
    (count_of_write at first ∙ all_pages at (length first) size)

-- the first quiet period, and those behind it
pub write_period_first : (probe : Option ℕ) (at : ℕ) (bytes : List ℕ) → 1 ≤ length bytes
    → write_moves probe at bytes
    ≡ (makes (write_steps at (take (4096 - at % 256) bytes)) ++ looks probe)
    ++ write_moves probe (at + length (take (4096 - at % 256) bytes)) (drop (4096 - at % 256) bytes)
write_period_first probe at bytes some =
    let room = 4096 - at % 256 in
    elim (cases_lt room (length bytes)) [
      | inl more ↦
          let size : length (take room bytes) ≡ room =
          let e = length-take room bytes in omega arith in
          ap (λ (b : List ℕ). write_moves probe at b) (sym (take-append-drop room bytes))
          ∙ write_more probe at (take room bytes) (drop room bytes) size
      | inr few ↦
          let whole : take room bytes ≡ bytes = take_all room bytes few in
          let none : drop room bytes ≡ [] = drop_of_length-le bytes few in
          let front = makes (write_steps at (take room bytes)) ++ looks probe in
          write_last probe at bytes some few
          ∙ ap (λ (b : List ℕ). makes (write_steps at b) ++ looks probe) (sym whole)
          ∙ sym (append-nil front)
          ∙ ap (λ (m : List Move). front ++ m)
          (sym (ap (λ (b : List ℕ). write_moves probe (at + length (take room bytes)) b) none
          ∙ write_nothing probe (at + length (take room bytes))))
    ]

pub periods_first : (at : ℕ) (bytes : List ℕ) → 1 ≤ length bytes
    → periods_of (write_steps at bytes)
    ≡ suc (periods_of (write_steps (at + length (take (4096 - at % 256) bytes))
    (drop (4096 - at % 256) bytes)))
periods_first at bytes some =
    let room = 4096 - at % 256 in
    let first = take room bytes in
    let rest = drop room bytes in
    elim (cases_lt room (length bytes)) [
      | inl more ↦
          let size : length first ≡ room = let e = length-take room bytes in omega arith in
          let cut : write_steps at bytes
          ≡ write_steps at first ++ write_steps (at + length first) rest =
          ap (λ (b : List ℕ). write_steps at b) (sym (take-append-drop room bytes))
          ∙ pieces_of_write at first rest (omega arith) in
          let sixteen : length (write_steps at first) ≡ 16 =
          count_of_write at first ∙ all_pages at (length first) size in
          let long = length-append (write_steps at first) (write_steps (at + length first) rest) in
          let all : length (write_steps at bytes)
          ≡ length (write_steps at first ++ write_steps (at + length first) rest) = ap length cut in
          omega arith
      | inr few ↦
          let n = few_pages at (length bytes) some few in
          let c = count_of_write at bytes in
          let none : rest ≡ [] = drop_of_length-le bytes few in
          let gone : length (write_steps (at + length first) rest) ≡ 0 =
          ap (λ (b : List ℕ). length (write_steps (at + length first) b)) none
          ∙ ap length (no_steps (at + length first)) in
          omega arith
    ]

-- the same, of pieces that were cut
pub write_period_cut : (probe : Option ℕ) (at : ℕ) (bytes first rest : List ℕ) → 1 ≤ length bytes
    → first ≡ take (4096 - at % 256) bytes → rest ≡ drop (4096 - at % 256) bytes
    → write_moves probe at bytes
    ≡ (makes (write_steps at first) ++ looks probe) ++ write_moves probe (at + length first) rest
write_period_cut probe at bytes first rest some front back =
    write_period_first probe at bytes some
    ∙ (λ i. (makes (write_steps at (sym front i)) ++ looks probe)
    ++ write_moves probe (at + length (sym front i)) (sym back i))

pub periods_cut : (at : ℕ) (bytes first rest : List ℕ) → 1 ≤ length bytes
    → first ≡ take (4096 - at % 256) bytes → rest ≡ drop (4096 - at % 256) bytes
    → periods_of (write_steps at bytes)
    ≡ suc (periods_of (write_steps (at + length first) rest))
periods_cut at bytes first rest some front back =
    periods_first at bytes some
    ∙ (λ i. suc (periods_of (write_steps (at + length (sym front i)) (sym back i))))

pub length_cut : (n : ℕ) (bytes first rest : List ℕ) → first ≡ take n bytes
    → rest ≡ drop n bytes → length first + length rest ≡ length bytes
length_cut n bytes first rest front back =
    let a : length first ≡ length (take n bytes) = ap length front in
    let b : length rest ≡ length (drop n bytes) = ap length back in
    let e = length-take n bytes in
    let f = length-drop n bytes in
    omega arith

pub write_done : (probe : Option ℕ) (at : ℕ) (bytes : List ℕ) → length bytes ≡ 0
    → write_moves probe at bytes ≡ []
write_done probe at [] none = write_nothing probe at
write_done probe at (byte ∷ bytes) none = absurd (omega arith)

pub periods_done : (at : ℕ) (bytes : List ℕ) → length bytes ≡ 0
    → periods_of (write_steps at bytes) ≡ 0
periods_done at [] none = ap periods_of (no_steps at)
periods_done at (byte ∷ bytes) none = absurd (omega arith)

pub no_pages : (at : ℕ) → pages_in at 0 ≡ 0
unfolding pages_in
no_pages at = refl

whole_pages : (len at : ℕ) → at % 256 ≡ 0 → len % 4096 ≡ 0
    → pages_in at len ≡ 16 * (len / 4096)
whole_pages len at begins whole =
    elim (cases_lt 0 len) [
      | inl some ↦ let n = pages_are at len some in omega arith
      | inr none ↦
          let no : len ≡ 0 = omega arith in
          subst (λ (m : ℕ). pages_in at m ≡ 16 * (m / 4096)) (sym no) (no_pages at)
    ]

-- whole quiet periods in front of others are one write with them
pub write_pieces : (probe : Option ℕ) (at : ℕ) (first rest : List ℕ) → at % 256 ≡ 0
    → length first % 4096 ≡ 0
    → write_moves probe at (first ++ rest)
    ≡ write_moves probe at first ++ write_moves probe (at + length first) rest
unfolding write_moves
write_pieces probe at first rest begins whole =
    ap (λ (s : List Step). by_sixteen (periods_of s) probe s)
    (pieces_of_write at first rest (omega arith))
    ∙ sixteens (length first / 4096) probe (write_steps at first)
    (write_steps (at + length first) rest)
    (count_of_write at first ∙ whole_pages (length first) at begins whole)

-- its steps, with and without a look
pub steps_of_write : (probe : Option ℕ) (at : ℕ) (bytes : List ℕ)
    → steps_of (write_moves probe at bytes) ≡ write_steps at bytes
unfolding write_moves
steps_of_write probe at bytes =
    steps_by_sixteen (periods_of (write_steps at bytes)) probe (write_steps at bytes)
    (enough_periods (write_steps at bytes))

pub blind_write : (at : ℕ) (bytes : List ℕ)
    → write_moves None at bytes ≡ makes (write_steps at bytes)
unfolding write_moves
blind_write at bytes =
    blind_by_sixteen (periods_of (write_steps at bytes)) (write_steps at bytes)
    (enough_periods (write_steps at bytes))

-- what a write needs of the room
pub entries_of_write : (probe : Option ℕ) (at : ℕ) (bytes : List ℕ)
    → entries_for (write_moves probe at bytes)
    ≡ 2 * length (write_steps at bytes)
    + periods_of (write_steps at bytes) * entries_for (looks probe)
unfolding write_moves
entries_of_write probe at bytes =
    entries_by_sixteen (periods_of (write_steps at bytes)) probe (write_steps at bytes)
    (enough_periods (write_steps at bytes))

pub bytes_of_write : (probe : Option ℕ) (at : ℕ) (bytes : List ℕ)
    → bytes_for (write_moves probe at bytes)
    ≡ periods_of (write_steps at bytes) * bytes_for (looks probe)
unfolding write_moves
bytes_of_write probe at bytes =
    bytes_by_sixteen (periods_of (write_steps at bytes)) probe (write_steps at bytes)

-- ---- erases

pub steps_one_by_one : (probe : Option ℕ) (steps : List Step)
    → steps_of (one_by_one probe steps) ≡ steps
steps_one_by_one probe [] = refl
steps_one_by_one probe (step ∷ steps) = ap (λ (s : List Step). step ∷ s)
    (steps_of-append (looks probe) (one_by_one probe steps)
    ∙ ap (λ (s : List Step). s ++ steps_of (one_by_one probe steps)) (steps_of_looks probe)
    ∙ steps_one_by_one probe steps)

blind_one_by_one : (steps : List Step) → one_by_one None steps ≡ makes steps
blind_one_by_one [] = refl
blind_one_by_one (step ∷ steps) =
    ap (λ (m : List Move). Make step ∷ m) (blind_one_by_one steps)

one_by_one-append : (probe : Option ℕ) (a b : List Step)
    → one_by_one probe (a ++ b) ≡ one_by_one probe a ++ one_by_one probe b
one_by_one-append probe [] b = refl
one_by_one-append probe (step ∷ a) b = ap (λ (m : List Move). Make step ∷ m)
    (ap (λ (m : List Move). looks probe ++ m) (one_by_one-append probe a b)
    ∙ sym (append_assoc (looks probe) (one_by_one probe a) (one_by_one probe b)))

entries_one_by_one : (probe : Option ℕ) (steps : List Step)
    → entries_for (one_by_one probe steps) ≡ length steps * (2 + entries_for (looks probe))
entries_one_by_one probe [] = grind arith
entries_one_by_one probe (step ∷ steps) =
    let rest = entries_one_by_one probe steps in
    let e = entries_for-append (looks probe) (one_by_one probe steps) in
    let times : suc (length steps) * (2 + entries_for (looks probe))
    ≡ 2 + entries_for (looks probe) + length steps * (2 + entries_for (looks probe))
    = grind arith in
    omega arith

bytes_one_by_one : (probe : Option ℕ) (steps : List Step)
    → bytes_for (one_by_one probe steps) ≡ length steps * bytes_for (looks probe)
bytes_one_by_one probe [] = grind arith
bytes_one_by_one probe (step ∷ steps) =
    let rest = bytes_one_by_one probe steps in
    let e = bytes_for-append (looks probe) (one_by_one probe steps) in
    let times : suc (length steps) * bytes_for (looks probe)
    ≡ bytes_for (looks probe) + length steps * bytes_for (looks probe) = grind arith in
    omega arith

pub steps_of_erase : (probe : Option ℕ) (at len : ℕ)
    → steps_of (erase_moves probe at len) ≡ erase_steps at len
unfolding erase_moves
steps_of_erase probe at len = steps_one_by_one probe (erase_steps at len)

pub blind_erase : (at len : ℕ) → erase_moves None at len ≡ makes (erase_steps at len)
unfolding erase_moves
blind_erase at len = blind_one_by_one (erase_steps at len)

pub erase_pieces : (probe : Option ℕ) (at first rest : ℕ) → at % 4096 ≡ 0 → first % 4096 ≡ 0
    → erase_moves probe at (first + rest)
    ≡ erase_moves probe at first ++ erase_moves probe (at + first) rest
unfolding erase_moves
erase_pieces probe at first rest begins ends =
    ap (one_by_one probe) (pieces_of_erase at first rest begins ends)
    ∙ one_by_one-append probe (erase_steps at first) (erase_steps (at + first) rest)

pub entries_of_erase : (probe : Option ℕ) (at len : ℕ)
    → entries_for (erase_moves probe at len) ≡ len / 4096 * (2 + entries_for (looks probe))
unfolding erase_moves
entries_of_erase probe at len =
    entries_one_by_one probe (erase_steps at len)
    ∙ ap (λ (n : ℕ). n * (2 + entries_for (looks probe))) (count_of_erase at len)

pub bytes_of_erase : (probe : Option ℕ) (at len : ℕ)
    → bytes_for (erase_moves probe at len) ≡ len / 4096 * bytes_for (looks probe)
unfolding erase_moves
bytes_of_erase probe at len =
    bytes_one_by_one probe (erase_steps at len)
    ∙ ap (λ (n : ℕ). n * bytes_for (looks probe)) (count_of_erase at len)

-- the sectors of an erase from the i-th on
unfoldable pub sectors_left : Option ℕ → ℕ → ℕ → ℕ → List Move
sectors_left probe first count i = one_by_one probe (erases (count - i) (first + i))

pub all_sectors : (probe : Option ℕ) (at len : ℕ)
    → erase_moves probe at len ≡ sectors_left probe (at / 4096) (len / 4096) 0
unfolding erase_moves sectors_left erase_steps
all_sectors probe at len =
    let n : len / 4096 ≡ len / 4096 - 0 = omega arith in
    let m : at / 4096 ≡ at / 4096 + 0 = omega arith in
    λ i. one_by_one probe (erases (n i) (m i))

pub next_sector : (probe : Option ℕ) (first count i : ℕ) → i < count
    → sectors_left probe first count i
    ≡ (Make (Erase (first + i)) ∷ looks probe) ++ sectors_left probe first count (i + 1)
unfolding sectors_left erases
next_sector probe first count i within =
    let more : count - i ≡ suc (count - (i + 1)) = omega arith in
    let place : first + i + 1 ≡ first + (i + 1) = omega arith in
    ap (λ (n : ℕ). one_by_one probe (erases n (first + i))) more
    ∙ ap (λ (n : ℕ). Make (Erase (first + i)) ∷ (looks probe
    ++ one_by_one probe (erases (count - (i + 1)) n))) place

pub no_sector : (probe : Option ℕ) (first count : ℕ) → sectors_left probe first count count ≡ []
unfolding sectors_left erases
no_sector probe first count =
    let gone : count - count ≡ 0 = omega arith in
    ap (λ (n : ℕ). one_by_one probe (erases n (first + count))) gone

-- ---- reads

pub read_nothing : read_moves 0 ≡ []
unfolding read_moves
read_nothing = refl

pub read_next : (len piece : ℕ) → 1 ≤ len → piece ≤ len → (len ≤ 4096 → piece ≡ len)
    → (4096 ≤ len → piece ≡ 4096)
    → read_moves len ≡ Ask ∷ read_moves (len - piece)
unfolding read_moves
read_next len piece some most short long =
    elim (cases_lt 4096 len) [
      | inl more ↦
          let p : piece ≡ 4096 = long (omega arith) in
          let n : (len + 4095) / 4096 ≡ suc ((len - piece + 4095) / 4096) = omega arith in
          ap asks n
      | inr few ↦
          let p : piece ≡ len = short few in
          let n : (len + 4095) / 4096 ≡ suc ((len - piece + 4095) / 4096) = omega arith in
          ap asks n
    ]

steps_of_asks : (n : ℕ) → steps_of (asks n) ≡ []
steps_of_asks zero = refl
steps_of_asks (suc n) = steps_of_asks n

pub steps_of_read : (len : ℕ) → steps_of (read_moves len) ≡ []
unfolding read_moves
steps_of_read len = steps_of_asks ((len + 4095) / 4096)

entries_of_asks : (n : ℕ) → (entries_for (asks n) ≡ 0) × (bytes_for (asks n) ≡ 0)
entries_of_asks zero = (refl, refl)
entries_of_asks (suc n) = entries_of_asks n

pub entries_of_read : (len : ℕ)
    → (entries_for (read_moves len) ≡ 0) × (bytes_for (read_moves len) ≡ 0)
unfolding read_moves
entries_of_read len = entries_of_asks ((len + 4095) / 4096)
