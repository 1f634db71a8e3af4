-- The steps of a write.
use Rattle.std.proofs.Common.{◌≡◌, ◌≤◌, ℕ, zero, suc, ◌+◌, ◌-◌, ◌%◌, List, [], ◌∷◌, ◌++◌, length, take, drop, inl, inr, min, refl, sym, ap, subst, ◌∙◌, arith, length-append, length-drop, append_assoc}
use Rattle.std.specs.List.{AllByRecursion}
use Rattle.std.proofs.lemmas.Bool.{cases_lt}
use Rattle.std.proofs.lemmas.List.{drop-append-le, drop_all, length-take, take-append-drop, take-append-le, take_all}
use Rattle.nor_device.specs.declared.step.Step.{Step}
use Rattle.nor_device.specs.declared.step.Step.TheVariants.{Program}
use Rattle.nor_device.specs.Flash.{IsPageLength, after_steps, applied}
use Rattle.nor_device.proofs.FlashLaws.{length_applied}
use Rattle.flash_steps.specs.Steps.{FollowOn, IsPageProgram, LiesIn, pages_in, programs, room_at, write_steps}
use Rattle.flash_steps.proofs.FollowLemmas.{lie_in}
use Rattle.flash_steps.proofs.JoinLemmas.{joined, nothing}
use Rattle.flash_steps.proofs.PageLemmas.{page_first, page_none}

-- What holds of no bytes, of bytes that end in their page, and of a whole rest of a page in front
-- of bytes of which it holds, holds of all bytes and their steps.
module _ (P : ℕ → List ℕ → List Step → Type 0) (none : (at : ℕ) → P at [] [])
    (last : (at : ℕ) (bytes : List ℕ) → 1 ≤ length bytes → length bytes ≤ room_at at
    → P at bytes (Program at bytes ∷ []))
    (more : (at : ℕ) (first rest : List ℕ) (steps : List Step) → length first ≡ room_at at
    → 1 ≤ length rest → P (at + room_at at) rest steps
    → P at (first ++ rest) (Program at first ∷ steps)) where
  by_count : (n at : ℕ) (bytes : List ℕ) → pages_in at (length bytes) ≡ n → P at bytes (programs n at bytes)
  unfolding programs
  by_count zero at [] is = none at
  by_count zero at (b ∷ bytes) is =
      absurd (let some = page_first at (length (b ∷ bytes)) (omega arith) in omega (arith, some, is))
  by_count (suc n) at [] is = absurd (omega (arith, page_none at, is))
  by_count (suc n) at (b ∷ bytes) is =
      let all = b ∷ bytes in
      let room = room_at at in
      let some = page_first at (length all) (omega arith) in
      let behind : pages_in (at + room) (length all - room) ≡ n = omega (arith, some, is) in
      let left : length (drop room all) ≡ length all - room = length-drop room all in
      let count : pages_in (at + room) (length (drop room all)) ≡ n =
      ap (λ len. pages_in (at + room) len) left ∙ behind in
      elim (cases_lt room (length all)) [
        | inl long ↦
            let size : length (take room all) ≡ room = omega (arith, length-take room all, long) in
            let later : 1 ≤ length (drop room all) = omega (arith, left, long) in
            subst (λ (bs : List ℕ). P at bs (Program at (take room all) ∷ programs n (at + room) (drop room all)))
            (take-append-drop room all)
            (more at (take room all) (drop room all) _ size later
            (by_count n (at + room) (drop room all) count))
        | inr short ↦
            let whole : take room all ≡ all = take_all room all short in
            let gone : length all - room ≡ 0 = omega arith in
            let empty : n ≡ 0 =
            sym behind ∙ ap (λ len. pages_in (at + room) len) gone ∙ page_none (at + room) in
            subst (λ (m : ℕ). P at all (Program at (take room all) ∷ programs m (at + room) (drop room all)))
            (sym empty)
            (subst (λ (bs : List ℕ). P at all (Program at bs ∷ [])) (sym whole)
            (last at all (omega arith) short))
      ]

  pub by_pages : (at : ℕ) (bytes : List ℕ) → P at bytes (write_steps at bytes)
  unfolding write_steps
  by_pages at bytes = by_count (pages_in at (length bytes)) at bytes refl

-- there are as many programs as pages
pub count_of_write : (at : ℕ) (bytes : List ℕ) → length (write_steps at bytes) ≡ pages_in at (length bytes)
count_of_write at bytes = by_pages (λ at bytes steps. length steps ≡ pages_in at (length bytes))
    (λ at. sym (page_none at))
    (λ at bytes some short.
    let gone : length bytes - room_at at ≡ 0 = omega arith in
    let one = page_first at (length bytes) some in
    sym (one ∙ ap suc (ap (λ len. pages_in (at + room_at at) len) gone ∙ page_none (at + room_at at))))
    (λ at first rest steps size some is.
    let long : length (first ++ rest) ≡ room_at at + length rest =
    length-append first rest ∙ ap (λ n. n + length rest) size in
    let left : length (first ++ rest) - room_at at ≡ length rest = omega (arith, long) in
    ap suc is ∙ sym (page_first at (length (first ++ rest)) (omega (arith, long, some))
    ∙ ap suc (ap (λ len. pages_in (at + room_at at) len) left)))
    at bytes

-- the programs follow one another, from the first byte to the last
pub follow_of_write : (at : ℕ) (bytes : List ℕ) → FollowOn at (at + length bytes) (write_steps at bytes)
follow_of_write at bytes = by_pages (λ at bytes steps. FollowOn at (at + length bytes) steps)
    (λ at. omega arith)
    (λ at bytes some short. (refl, refl))
    (λ at first rest steps size some is.
    let to : at + room_at at + length rest ≡ at + length (first ++ rest) =
    omega (arith, length-append first rest, size) in
    let from : at + room_at at ≡ at + length first = ap (λ n. at + n) (sym size) in (
      refl,
      subst (λ (to : ℕ). FollowOn (at + length first) to steps) to
          (subst (λ (from : ℕ). FollowOn from (at + room_at at + length rest) steps) from is),
    ))
    at bytes

-- each program stays in one page
pub pages_of_write : (at : ℕ) (bytes : List ℕ) → AllByRecursion IsPageProgram (write_steps at bytes)
pages_of_write at bytes = by_pages (λ at bytes steps. AllByRecursion IsPageProgram steps)
    (λ at. tt)
    (λ at bytes some short. ((some, omega arith), tt))
    (λ at first rest steps size some is. ((omega (arith, size), omega (arith, size)), is))
    at bytes

-- the programs make of a flash what one program of all bytes would
pub whole_write : (at : ℕ) (bytes flash : List ℕ) → at + length bytes ≤ length flash
    → after_steps flash (write_steps at bytes) ≡ applied flash (Program at bytes)
whole_write at bytes = by_pages (λ at bytes steps. (flash : List ℕ) → at + length bytes ≤ length flash
    → after_steps flash steps ≡ applied flash (Program at bytes))
    (λ at flash inside. sym (nothing at flash))
    (λ at bytes some short flash inside. refl)
    (λ at first rest steps size some is flash inside.
    let from : at + room_at at ≡ at + length first = ap (λ n. at + n) (sym size) in
    let long = length-append first rest in
    let next = applied flash (Program at first) in
    is next (omega (arith, long, size, length_applied flash (Program at first), inside))
    ∙ ap (λ n. applied next (Program n rest)) from
    ∙ joined flash at first rest)
    at bytes

-- a write of the whole rest of a page, and more, begins by its program
write_first : (at : ℕ) (first rest : List ℕ) → length first ≡ room_at at
    → write_steps at (first ++ rest) ≡ Program at first ∷ write_steps (at + room_at at) rest
unfolding write_steps programs
write_first at first rest size =
    let all = first ++ rest in
    let long = length-append first rest in
    let some : 1 ≤ length all = omega (arith, long, size) in
    let front : take (room_at at) all ≡ first =
    take-append-le (room_at at) first rest (omega (arith, size))
    ∙ take_all (room_at at) first (omega (arith, size)) in
    let back : drop (room_at at) all ≡ rest =
    drop-append-le (room_at at) first rest (omega (arith, size))
    ∙ ap (λ part. part ++ rest) (drop_all (room_at at) first (omega (arith, size))) in
    let left : length all - room_at at ≡ length rest = omega (arith, long, size) in
    ap (λ n. programs n at all)
    (page_first at (length all) some ∙ ap (λ len. suc (pages_in (at + room_at at) len)) left)
    ∙ ap (λ bs. Program at bs ∷ programs (pages_in (at + room_at at) (length rest)) (at + room_at at) (drop (room_at at) all)) front
    ∙ ap (λ bs. Program at first ∷ programs (pages_in (at + room_at at) (length rest)) (at + room_at at) bs) back

-- a write in pieces that end at the ends of pages is one write
pub pieces_of_write : (at : ℕ) (first rest : List ℕ) → (at + length first) % 256 ≡ 0
    → write_steps at (first ++ rest) ≡ write_steps at first ++ write_steps (at + length first) rest
pieces_of_write at first rest = by_pages (λ at first steps. (at + length first) % 256 ≡ 0
    → write_steps at (first ++ rest) ≡ steps ++ write_steps (at + length first) rest)
    (λ at ends. ap (λ n. write_steps n rest) (omega arith))
    (λ at bytes some short ends.
    let size : length bytes ≡ room_at at = omega arith in
    write_first at bytes rest size ∙ ap (λ n. Program at bytes ∷ write_steps (at + n) rest) (sym size))
    (λ at page mid steps size some is ends.
    let long = length-append page mid in
    let to : at + room_at at + length mid ≡ at + length (page ++ mid) = omega (arith, long, size) in
    ap (λ bs. write_steps at bs) (append_assoc page mid rest)
    ∙ write_first at page (mid ++ rest) size
    ∙ ap (λ all. Program at page ∷ all) (is (ap (λ n. n % 256) to ∙ ends))
    ∙ ap (λ n. Program at page ∷ (steps ++ write_steps n rest)) to)
    at first

-- the programs lie in their range
pub inside_of_write : (at : ℕ) (bytes : List ℕ)
    → AllByRecursion (LiesIn at (at + length bytes)) (write_steps at bytes)
inside_of_write at bytes =
    (lie_in at (at + length bytes) (write_steps at bytes) (follow_of_write at bytes)).1

-- no byte is written by no step
pub no_steps : (at : ℕ) → write_steps at [] ≡ []
unfolding write_steps programs
no_steps at = ap (λ n. programs n at []) (page_none at)

-- a write of some bytes begins by the program of their first page
pub write_next : (at : ℕ) (bytes : List ℕ) → 1 ≤ length bytes
    → write_steps at bytes ≡ Program at (take (room_at at) bytes)
    ∷ write_steps (at + length (take (room_at at) bytes)) (drop (room_at at) bytes)
unfolding write_steps programs
write_next at bytes some =
    let room = room_at at in
    let size : length (take room bytes) ≡ min room (length bytes) = length-take room bytes in
    let left : length (drop room bytes) ≡ length bytes - room = length-drop room bytes in
    ap (λ n. programs n at bytes)
    (page_first at (length bytes) some ∙ ap (λ len. suc (pages_in (at + room) len)) (sym left))
    ∙ ap (λ steps. Program at (take room bytes) ∷ steps) (elim (cases_lt room (length bytes)) [
      | inl long ↦
          let whole : length (take room bytes) ≡ room = omega (arith, size) in
          ap (λ n. write_steps (at + n) (drop room bytes)) (sym whole)
      | inr short ↦
          let gone : drop room bytes ≡ [] = drop_all room bytes short in
          ap (λ bs. write_steps (at + room) bs) gone ∙ no_steps (at + room)
          ∙ sym (no_steps (at + length (take room bytes)))
          ∙ sym (ap (λ bs. write_steps (at + length (take room bytes)) bs) gone)
    ])

-- bytes of which none lie in the first page are none
pub no_page : (at : ℕ) (bytes : List ℕ) → (IsPageLength (take (room_at at) bytes) → ⊥)
    → write_steps at bytes ≡ []
no_page at [] none = no_steps at
no_page at (b ∷ bytes) none =
    absurd (let size = length-take (room_at at) (b ∷ bytes) in none (omega (arith, size), omega (arith, size)))

-- bytes that end in the page in which they begin are one program
pub one_program : (at : ℕ) (bytes : List ℕ) → 1 ≤ length bytes → at % 256 + length bytes ≤ 256
    → write_steps at bytes ≡ Program at bytes ∷ []
one_program at bytes some short =
    let room = room_at at in
    let whole : take room bytes ≡ bytes = take_all room bytes (omega arith) in
    let gone : drop room bytes ≡ [] = drop_all room bytes (omega arith) in
    write_next at bytes some
    ∙ ap (λ bs. Program at (take room bytes) ∷ write_steps (at + length (take room bytes)) bs) gone
    ∙ ap (λ steps. Program at (take room bytes) ∷ steps) (no_steps (at + length (take room bytes)))
    ∙ ap (λ bs. Program at bs ∷ []) whole
