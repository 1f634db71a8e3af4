-- A record that is put into the active bank: the keys before, or the changed ones.
use Rattle.std.proofs.Common.{◌≡◌, ◌≤◌, ◌<◌, ◌⊎◌, ℕ, ◌+◌, ◌*◌, List, [], ◌∷◌, ◌++◌, length, Option, Some, refl, sym, ap, ◌∙◌, inl, inr, arith}
use Rattle.nor_device.specs.declared.step.Step.{Step}
use Rattle.nor_device.specs.Flash.{after_steps}
use Rattle.nor_device.proofs.FlashLaws.{length-after_steps}
use Rattle.crash_images.specs.Agrees.{Agrees, IsBeside}
use Rattle.crash_images.specs.Crash.{LeftAfter}
use Rattle.crash_images.proofs.AgreesLaws.{beside_wider, left_agrees}
use Rattle.crash_images.proofs.LeftLaws.{left_end}
use Rattle.nvs_keys.specs.declared.bank.Bank.{Bank}
use Rattle.nvs_keys.specs.Changes.{Change, IsChange, Map, changed, map_after, no_keys}
use Rattle.nvs_keys.specs.Slots.{cons_option, given, record_bytes, slot_of}
use Rattle.nvs_keys.specs.declared.place.Place.{Place}
use Rattle.nvs_keys.specs.Banks.{active_in, bank_at, bank_changes, keys_in, map_of, mark_in, other, records, records_at}
use Rattle.nvs_keys.specs.Steps.{put_steps, slot_at}
use Rattle.nvs_keys.specs.Left.{Knows}
use Rattle.nvs_keys.proofs.SlotLemmas.{given_record, length_record, record_small}
use Rattle.nvs_keys.proofs.PutLemmas.{Erased, bank_put_done, bank_put_left, put_within}
use Rattle.nvs_keys.proofs.ActiveLemmas.{active_same, apart_other, keys_active, knows_again, lies, map_is, mark_same, records_fill}

-- first some changes, then the others
pub map_append : (m : Map) (cs ds : List Change)
    → map_after m (cs ++ ds) ≡ map_after (map_after m cs) ds
map_append m [] ds = refl
map_append m (c ∷ cs) ds = map_append (changed m c) cs ds

module _ (p : Place) (flash : List ℕ) (bank : Bank) (g k : ℕ) (c : Change)
    (knows : Knows p flash bank g) (is : IsChange c) (free : k < records p)
    (erased : Erased (slot_at p bank k) (bank_at p bank + p.half) flash) where
  abbrev steps : List Step
  steps = put_steps (slot_at p bank k) (record_bytes c)

  fills : 64 + 64 * records p ≡ p.half
  fills = records_fill p (length flash) knows.place

  agrees : (left : List ℕ) → LeftAfter flash steps left
      → Agrees (IsBeside (slot_at p bank k) (slot_at p bank k + 64)) flash left
  agrees left after =
      left_agrees (slot_at p bank k) (slot_at p bank k + 64) flash steps left
      (put_within (slot_at p bank k) (record_bytes c) (omega (arith, length_record c is))) after

  -- the header of the bank stays
  own : (left : List ℕ) → LeftAfter flash steps left → mark_in p left bank ≡ mark_in p flash bank
  own left after =
      mark_same (IsBeside (slot_at p bank k) (slot_at p bank k + 64)) p flash left bank
      (λ i from to. inl (omega arith)) (agrees left after)

  -- so does that of the other bank
  theirs : (left : List ℕ) → LeftAfter flash steps left
      → mark_in p left (other bank) ≡ mark_in p flash (other bank)
  theirs left after =
      mark_same (IsBeside (slot_at p bank k) (slot_at p bank k + 64)) p flash left (other bank)
      (λ i from to. beside_wider (slot_at p bank k) (slot_at p bank k + 64) (bank_at p bank) (bank_at p bank + p.half) i
      (omega arith) (omega (arith, fills)) (apart_other p bank i from (omega (arith, knows.place.some)))) (agrees left after)

  active : (left : List ℕ) → LeftAfter flash steps left → active_in p left ≡ Some bank
  active left after =
      active_same (mark_in p left) (mark_in p flash) bank (own left after) (theirs left after) ∙ knows.active

  inside : records_at p bank + 64 * records p ≤ length flash
  inside = omega (arith, fills, (lies p (length flash) bank knows.place).inside)

  blank : Erased (records_at p bank + 64 * k) (records_at p bank + 64 * records p) flash
  blank i from to = erased i from (omega (arith, fills))

  -- the record is the change
  gives : cons_option (given (slot_of 0 (record_bytes c))) [] ≡ c ∷ []
  gives = ap (λ (o : Option Change). cons_option o []) (given_record c is)

  -- the map of the bank with one change more
  map_more : (left : List ℕ) → bank_changes p left bank
      ≡ bank_changes p flash bank ++ cons_option (given (slot_of 0 (record_bytes c))) []
      → map_of p left bank ≡ changed (map_of p flash bank) c
  map_more left more =
      map_is p left bank
      ∙ ap (map_after no_keys) (more ∙ ap (λ (cs : List Change). bank_changes p flash bank ++ cs) gives)
      ∙ map_append no_keys (bank_changes p flash bank) (c ∷ [])
      ∙ ap (λ (m : Map). changed m c) (sym (map_is p flash bank))

  -- at every moment the keys are those before, or the changed ones
  pub put_keys : (left : List ℕ) → LeftAfter flash steps left
      → (keys_in p left ≡ keys_in p flash) ⊎ (keys_in p left ≡ Some (changed (map_of p flash bank) c))
  put_keys left after =
      elim (bank_put_left flash (records_at p bank) (records p) k (record_bytes c) free inside
      (length_record c is) (record_small c is) blank left after) [
        | inl same ↦ inl (keys_active p left bank (active left after)
            ∙ ap (λ (m : Map). Some m) (map_is p left bank ∙ ap (map_after no_keys) same ∙ sym (map_is p flash bank))
            ∙ sym (keys_active p flash bank knows.active))
        | inr more ↦ inr (keys_active p left bank (active left after)
            ∙ ap (λ (m : Map). Some m) (map_more left more))
      ]

  -- behind both programs they are the changed ones
  pub put_keys_done : keys_in p (after_steps flash steps) ≡ Some (changed (map_of p flash bank) c)
  put_keys_done =
      let done : List ℕ = after_steps flash steps in
      let after : LeftAfter flash steps done = left_end flash steps in
      keys_active p done bank (active done after)
      ∙ ap (λ (m : Map). Some m) (map_more done
      (bank_put_done flash (records_at p bank) (records p) k (record_bytes c) free inside
      (length_record c is) (record_small c is) blank))

  -- and the bank is still known
  pub put_known : Knows p (after_steps flash steps) bank g
  put_known =
      let done : List ℕ = after_steps flash steps in
      let after : LeftAfter flash steps done = left_end flash steps in
      knows_again p flash done bank g knows (length-after_steps flash steps) (own done after) (theirs done after)
