-- A change of the keys: its steps at every moment, and behind them; and changes one after the other.
use Rattle.std.proofs.Common.{◌≡◌, ◌≤◌, ◌<◌, ◌⊎◌, ℕ, ◌+◌, Bool, true, false, cond, List, [], ◌∷◌, ◌++◌, length, Some, refl, sym, ap, ◌∙◌, subst, inl, inr, arith}
use Rattle.std.specs.Prelude.{nat_lt}
use Rattle.std.specs.List.{All}
use Rattle.std.proofs.lemmas.Bool.{cases_lt, le-ltb, lt-ltb}
use Rattle.std.proofs.lemmas.Option.{same_Some}
use Rattle.nor_device.specs.declared.step.Step.{Step}
use Rattle.nor_device.specs.Flash.{after_steps}
use Rattle.nor_device.proofs.FlashLaws.{after_steps_append}
use Rattle.crash_images.specs.Crash.{LeftAfter}
use Rattle.crash_images.proofs.LeftLaws.{left_append, left_end, left_none, left_small}
use Rattle.nvs_keys.specs.declared.bank.Bank.{Bank}
use Rattle.nvs_keys.specs.Changes.{Change, IsChange, Map, changed, map_after}
use Rattle.nvs_keys.specs.Slots.{record_bytes}
use Rattle.nvs_keys.specs.declared.place.Place.{Place}
use Rattle.nvs_keys.specs.Banks.{bank_at, keys_in, live_in, map_of, other, records, records_at, used_in}
use Rattle.nvs_keys.specs.Steps.{bank_behind, change_steps, exchange_steps, generation_behind, joined, put_steps, slot_at}
use Rattle.nvs_keys.specs.Left.{AreAccepted, ChanceAt, ChanceIn, HasRoom, IsAccepted, IsAfterSome, IsBeforeOrAfter, Knows}
use Rattle.nvs_keys.proofs.PutLemmas.{Erased, used_blank}
use Rattle.nvs_keys.proofs.ActiveLemmas.{keys_active, lies, records_fill}
use Rattle.nvs_keys.proofs.ChangeLemmas.{put_keys, put_keys_done, put_known}
use Rattle.nvs_keys.proofs.ExchangeLemmas.{chance_front, exchange_left, exchanged_free, exchanged_known, exchanged_map}

-- ---- one change

module _ (p : Place) (first : List ℕ) (bank : Bank) (g : ℕ) (c : Change) where
  -- the exchange, and the record behind the live ones
  abbrev exchanging : List Step
  exchanging = exchange_steps p first bank g

  abbrev last_put : List Step
  last_put = put_steps (slot_at p (other bank) (live_in p first bank)) (record_bytes c)

  abbrev first_put : List Step
  first_put = put_steps (slot_at p bank (used_in p first bank)) (record_bytes c)

  change_by : change_steps p first bank g c
      ≡ cond (nat_lt (used_in p first bank) (records p)) first_put (exchanging ++ last_put)
  unfolding change_steps
  change_by = refl

  -- with a free slot a change is one record
  pub change_puts : used_in p first bank < records p → change_steps p first bank g c ≡ first_put
  change_puts free =
      change_by ∙ ap (λ (b : Bool). cond b first_put (exchanging ++ last_put))
      (lt-ltb (used_in p first bank) (records p) free)

  -- with none it is an exchange and one record
  pub change_exchanges : records p ≤ used_in p first bank → change_steps p first bank g c ≡ exchanging ++ last_put
  change_exchanges used_up =
      change_by ∙ ap (λ (b : Bool). cond b first_put (exchanging ++ last_put))
      (le-ltb (used_in p first bank) (records p) used_up)

module _ (p : Place) (first : List ℕ) (bank : Bank) (g : ℕ) (c : Change) (small : All (λ b. b < 256) first)
    (knows : Knows p first bank g) (is : IsChange c) (has : HasRoom p first bank g) where
  -- where no slot is free, some of them are not live
  some_dead : records p ≤ used_in p first bank → live_in p first bank < records p
  some_dead used_up = elim (cases_lt (live_in p first bank) (records p)) [
    | inl fewer ↦ fewer
    | inr full ↦ absurd (has.room (record { used_up = used_up; live = full }))
  ]

  -- the free slots
  free_slots : Erased (slot_at p bank (used_in p first bank)) (bank_at p bank + p.half) first
  free_slots i from up =
      let fills = records_fill p (length first) knows.place in
      used_blank first (records_at p bank) (records p)
      (omega (arith, fills, (lies p (length first) bank knows.place).inside)) i from (omega (arith, fills))

  put_left : used_in p first bank < records p → (left : List ℕ)
      → LeftAfter first (first_put p first bank g c) left
      → IsBeforeOrAfter p first (first_put p first bank g c) (Some (changed (map_of p first bank) c)) left
  put_left free left after =
      elim (put_keys p first bank g (used_in p first bank) c knows is free free_slots left after) [
        | inl before ↦ inl before
        | inr behind ↦ inr (inl behind)
      ]

  exchange_put_left : records p ≤ used_in p first bank → (left : List ℕ)
      → LeftAfter first (exchanging p first bank g c ++ last_put p first bank g c) left
      → IsBeforeOrAfter p first (exchanging p first bank g c ++ last_put p first bank g c)
      (Some (changed (map_of p first bank) c)) left
  exchange_put_left used_up left after =
      let steps : List Step = exchanging p first bank g c in
      let last : List Step = last_put p first bank g c in
      let room = some_dead used_up in
      let next = has.next used_up in
      let mid : List ℕ = after_steps first steps in
      let known : Knows p mid (other bank) (g + 1) = exchanged_known p first bank g knows small room next in
      let same : map_of p mid (other bank) ≡ map_of p first bank = exchanged_map p first bank g knows small room next in
      elim (left_append first steps last left after) [
        | inl early ↦ elim (exchange_left p first bank g knows small room next left early) [
          | inl before ↦ inl before
          | inr chance ↦ inr (inr (chance_front p first steps last left chance))
        ]
        | inr late ↦
            elim (put_keys p mid (other bank) (g + 1) (live_in p first bank) c known is room
            (exchanged_free p first bank g knows small room next) left late) [
              | inl before ↦ inl (before ∙ keys_active p mid (other bank) known.active
                  ∙ ap (λ (m : Map). Some m) same ∙ sym (keys_active p first bank knows.active))
              | inr behind ↦ inr (inl (behind ∙ ap (λ (m : Map). Some (changed m c)) same))
            ]
      ]

  -- at every moment the keys are those before or the changed ones, unless a header matches by chance
  pub change_left : (left : List ℕ) → LeftAfter first (change_steps p first bank g c) left
      → IsBeforeOrAfter p first (change_steps p first bank g c) (Some (changed (map_of p first bank) c)) left
  change_left left =
      let After : List Step → Type 0 = λ steps. LeftAfter first steps left
      → IsBeforeOrAfter p first steps (Some (changed (map_of p first bank) c)) left in
      elim (cases_lt (used_in p first bank) (records p)) [
        | inl free ↦ subst After (sym (change_puts p first bank g c free)) (put_left free left)
        | inr used_up ↦ subst After (sym (change_exchanges p first bank g c used_up)) (exchange_put_left used_up left)
      ]

  -- behind all steps they are the changed ones
  pub change_done : keys_in p (after_steps first (change_steps p first bank g c)) ≡ Some (changed (map_of p first bank) c)
  change_done = elim (cases_lt (used_in p first bank) (records p)) [
    | inl free ↦
        ap (λ (steps : List Step). keys_in p (after_steps first steps)) (change_puts p first bank g c free)
        ∙ put_keys_done p first bank g (used_in p first bank) c knows is free free_slots
    | inr used_up ↦
        let steps : List Step = exchanging p first bank g c in
        let last : List Step = last_put p first bank g c in
        let room = some_dead used_up in
        let next = has.next used_up in
        ap (λ (all : List Step). keys_in p (after_steps first all)) (change_exchanges p first bank g c used_up)
        ∙ ap (keys_in p) (after_steps_append first steps last)
        ∙ put_keys_done p (after_steps first steps) (other bank) (g + 1) (live_in p first bank) c
        (exchanged_known p first bank g knows small room next) is room
        (exchanged_free p first bank g knows small room next)
        ∙ ap (λ (m : Map). Some (changed m c)) (exchanged_map p first bank g knows small room next)
  ]

  -- and a bank is active again, with its generation
  pub change_known : Knows p (after_steps first (change_steps p first bank g c))
      (bank_behind p first bank) (generation_behind p first bank g)
  change_known = elim (cases_lt (used_in p first bank) (records p)) [
    | inl free ↦
        let test : nat_lt (used_in p first bank) (records p) ≡ true = lt-ltb (used_in p first bank) (records p) free in
        subst (λ (steps : List Step). Knows p (after_steps first steps) (bank_behind p first bank) (generation_behind p first bank g))
        (sym (change_puts p first bank g c free))
        (subst (λ (b : Bool). Knows p (after_steps first (first_put p first bank g c)) (cond b bank (other bank)) (cond b g (g + 1)))
        (sym test) (put_known p first bank g (used_in p first bank) c knows is free free_slots))
    | inr used_up ↦
        let steps : List Step = exchanging p first bank g c in
        let last : List Step = last_put p first bank g c in
        let room = some_dead used_up in
        let next = has.next used_up in
        let test : nat_lt (used_in p first bank) (records p) ≡ false = le-ltb (used_in p first bank) (records p) used_up in
        subst (λ (all : List Step). Knows p (after_steps first all) (bank_behind p first bank) (generation_behind p first bank g))
        (sym (change_exchanges p first bank g c used_up))
        (subst (λ (b : Bool). Knows p (after_steps first (steps ++ last)) (cond b bank (other bank)) (cond b g (g + 1)))
        (sym test) (subst (λ (f : List ℕ). Knows p f (other bank) (g + 1)) (sym (after_steps_append first steps last))
        (put_known p (after_steps first steps) (other bank) (g + 1) (live_in p first bank) c
        (exchanged_known p first bank g knows small room next) is room
        (exchanged_free p first bank g knows small room next))))
  ]

-- ---- a change that is accepted

-- the map of the active bank, where the keys are known
known_map : (p : Place) (flash : List ℕ) (bank : Bank) (g : ℕ) (m : Map) → Knows p flash bank g
    → keys_in p flash ≡ Some m → map_of p flash bank ≡ m
known_map p flash bank g m knows is =
    same_Some (map_of p flash bank) m (sym (keys_active p flash bank knows.active) ∙ is)

pub accepted_left : (p : Place) (flash : List ℕ) (m : Map) (c : Change) (steps : List Step) (left : List ℕ)
    → All (λ b. b < 256) flash → IsAccepted p flash c steps → keys_in p flash ≡ Some m
    → LeftAfter flash steps left → IsBeforeOrAfter p flash steps (Some (changed m c)) left
accepted_left p flash m c steps left small accepted is =
    let bank = accepted.bank in
    let g = accepted.generation in
    let same : map_of p flash bank ≡ m = known_map p flash bank g m accepted.knows is in
    subst (λ (all : List Step). LeftAfter flash all left → IsBeforeOrAfter p flash all (Some (changed m c)) left)
    (sym accepted.steps_are)
    (subst (λ (n : Map). LeftAfter flash (change_steps p flash bank g c) left
    → IsBeforeOrAfter p flash (change_steps p flash bank g c) (Some (changed n c)) left) same
    (change_left p flash bank g c small accepted.knows accepted.change accepted.room left))

pub accepted_done : (p : Place) (flash : List ℕ) (m : Map) (c : Change) (steps : List Step)
    → All (λ b. b < 256) flash → IsAccepted p flash c steps → keys_in p flash ≡ Some m
    → keys_in p (after_steps flash steps) ≡ Some (changed m c)
accepted_done p flash m c steps small accepted is =
    ap (λ (all : List Step). keys_in p (after_steps flash all)) accepted.steps_are
    ∙ change_done p flash accepted.bank accepted.generation c small accepted.knows accepted.change accepted.room
    ∙ ap (λ (n : Map). Some (changed n c)) (known_map p flash accepted.bank accepted.generation m accepted.knows is)

-- ---- changes one after the other

small_behind : (flash : List ℕ) (steps : List Step) → All (λ b. b < 256) flash
    → All (λ b. b < 256) (after_steps flash steps)
small_behind flash steps small = left_small flash steps (after_steps flash steps) (left_end flash steps) small

-- behind all of them the map is changed by each in turn
pub all_done : (p : Place) (flash : List ℕ) (m : Map) (cs : List Change) (calls : List (List Step))
    → All (λ b. b < 256) flash → AreAccepted p flash cs calls → keys_in p flash ≡ Some m
    → keys_in p (after_steps flash (joined calls)) ≡ Some (map_after m cs)
all_done p flash m [] [] small accepted is = is
all_done p flash m [] (steps ∷ later) small accepted is = absurd accepted
all_done p flash m (c ∷ cs) [] small accepted is = absurd accepted
all_done p flash m (c ∷ cs) (steps ∷ later) small accepted is =
    ap (keys_in p) (after_steps_append flash steps (joined later))
    ∙ all_done p (after_steps flash steps) (changed m c) cs later (small_behind flash steps small) accepted.1
    (accepted_done p flash m c steps small accepted.0 is)

-- one change more in front
more_done : (p : Place) (m : Map) (c : Change) (cs : List Change) (left : List ℕ)
    → IsAfterSome p (changed m c) cs left → IsAfterSome p m (c ∷ cs) left
more_done p m c cs left some = record {
  done = c ∷ some.done;
  rest = some.rest;
  split = ap (λ (l : List Change). c ∷ l) some.split;
  keys = some.keys;
}

-- at every moment it is changed by a first part of them, unless a header matches by chance
pub all_left : (p : Place) (flash : List ℕ) (m : Map) (cs : List Change) (calls : List (List Step)) (left : List ℕ)
    → All (λ b. b < 256) flash → AreAccepted p flash cs calls → keys_in p flash ≡ Some m
    → LeftAfter flash (joined calls) left → IsAfterSome p m cs left ⊎ ChanceAt p flash calls left
all_left p flash m [] [] left small accepted is after =
    inl (record { done = []; rest = []; split = refl; keys = ap (keys_in p) (left_none flash left after) ∙ is })
all_left p flash m [] (steps ∷ later) left small accepted is after = absurd accepted
all_left p flash m (c ∷ cs) [] left small accepted is after = absurd accepted
all_left p flash m (c ∷ cs) (steps ∷ later) left small accepted is after =
    elim (left_append flash steps (joined later) left after) [
      | inl early ↦ elim (accepted_left p flash m c steps left small accepted.0 is early) [
        | inl before ↦ inl (record { done = []; rest = c ∷ cs; split = refl; keys = before ∙ is })
        | inr more ↦ elim more [
          | inl behind ↦ inl (record { done = c ∷ []; rest = cs; split = refl; keys = behind })
          | inr chance ↦ inr (inl chance)
        ]
      ]
      | inr late ↦
          elim (all_left p (after_steps flash steps) (changed m c) cs later left (small_behind flash steps small)
          accepted.1 (accepted_done p flash m c steps small accepted.0 is) late) [
            | inl some ↦ inl (more_done p m c cs left some)
            | inr chance ↦ inr (inr chance)
          ]
    ]

-- behind changes that were acknowledged, and within one more: their map, or that of one change more
pub one_under_way : (p : Place) (flash : List ℕ) (m : Map) (cs : List Change) (calls : List (List Step))
    (c : Change) (steps : List Step) (left : List ℕ)
    → All (λ b. b < 256) flash → AreAccepted p flash cs calls → keys_in p flash ≡ Some m
    → IsAccepted p (after_steps flash (joined calls)) c steps
    → LeftAfter (after_steps flash (joined calls)) steps left
    → (keys_in p left ≡ Some (map_after m cs)) ⊎ ((keys_in p left ≡ Some (changed (map_after m cs) c))
    ⊎ ChanceIn p (after_steps flash (joined calls)) steps left)
one_under_way p flash m cs calls c steps left small accepted is one after =
    let mid : List ℕ = after_steps flash (joined calls) in
    let done : keys_in p mid ≡ Some (map_after m cs) = all_done p flash m cs calls small accepted is in
    elim (accepted_left p mid (map_after m cs) c steps left (small_behind flash (joined calls) small) one done after) [
      | inl before ↦ inl (before ∙ done)
      | inr more ↦ inr more
    ]
