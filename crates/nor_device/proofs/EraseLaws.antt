-- The erase of a sector and that of a block, told by where they begin and how long they are.
use Rattle.std.specs.Prelude.{◌↔◌}
use Rattle.std.proofs.Common.{◌≡◌, ℕ, ◌+◌, ◌-◌, ◌<◌, ◌≤◌, Bool, true, false, ◌&&◌, cond, nat_lt, nat_le, List, ◌++◌, length, take, drop, replicate, get_or, sym, ◌∙◌, ap, inl, inr, arith, refl, length-drop}
use Rattle.std.proofs.lemmas.List.{length-take, length-replicate, get_or-replicate}
use Rattle.std.proofs.lemmas.Bool.{cases_lt}
use Rattle.std.proofs.lemmas.Bool.Decides.{nat_tests}
use Rattle.nor_device.specs.declared.step.Step.{Step}
use Rattle.nor_device.specs.declared.step.Step.TheVariants.{Erase, Program, Block}
use Rattle.nor_device.specs.Flash.{start_of, len_of, end_of, IsErase, part_after, changed_byte, applied, erased}
use Rattle.nor_device.specs.Torn.{IsTornByte, Torn, IsTornErase}
use Rattle.nor_device.proofs.Splice.{length-spliced, spliced_below, spliced_within, spliced_above}

-- a range inside has the bytes that it says
pub length-part : (flash : List ℕ) (start len : ℕ) → start + len ≤ length flash
    → length (take len (drop start flash)) ≡ len
length-part flash start len inside =
    omega (arith, length-take len (drop start flash), length-drop start flash)

-- an erase leaves 0xFF of each byte of its range
pub erased_part : (step : Step) (part : List ℕ) → IsErase step
    → part_after step part ≡ replicate (length part) 255
erased_part (Erase sector) part is = refl
erased_part (Program at page) part is = absurd is
erased_part (Block block) part is = refl

-- and at each place
pub erased_byte : (step : Step) (k byte : ℕ) → IsErase step → changed_byte step k byte ≡ 255
erased_byte (Erase sector) k byte is = refl
erased_byte (Program at page) k byte is = absurd is
erased_byte (Block block) k byte is = refl

-- it may leave any byte in its range
pub torn_erase_byte : (step : Step) (k old new : ℕ) → IsErase step → (old < 256 → new < 256)
    → IsTornByte step k old new
torn_erase_byte (Erase sector) k old new is any = any
torn_erase_byte (Program at page) k old new is any = absurd is
torn_erase_byte (Block block) k old new is any = any

-- and nothing but a byte
pub erase_leaves_byte : (step : Step) (k old new : ℕ) → IsErase step → IsTornByte step k old new
    → old < 256 → new < 256
erase_leaves_byte (Erase sector) k old new is torn small = torn small
erase_leaves_byte (Program at page) k old new is torn small = absurd is
erase_leaves_byte (Block block) k old new is torn small = torn small

-- the flash after an erase has 0xFF in the range, and all else stays
pub applied_erase : (flash : List ℕ) (step : Step) → IsErase step → end_of step ≤ length flash
    → applied flash step ≡ erased flash (start_of step) (len_of step)
applied_erase flash step is inside =
    let start = start_of step in
    let len = len_of step in
    ap (λ (part : List ℕ). take start flash ++ part ++ drop (start + len) flash)
    (erased_part step (take len (drop start flash)) is
    ∙ ap (λ (n : ℕ). replicate n 255) (length-part flash start len inside))

-- what an erase may leave
torn_by_range : (old new : List ℕ) (step : Step) → IsErase step → Torn old step new
    → IsTornErase (start_of step) (len_of step) old new
torn_by_range old new step is torn = record {
  same_length = torn.same_length;
  outside = λ i there out. (torn.byte i there).outside out;
  inside = λ i there from to small.
      erase_leaves_byte step (i - start_of step) _ _ is ((torn.byte i there).inside from to) small;
}

range_is_torn : (old new : List ℕ) (step : Step) → IsErase step
    → IsTornErase (start_of step) (len_of step) old new → Torn old step new
range_is_torn old new step is torn = record {
  same_length = torn.same_length;
  byte = λ i there. record {
    outside = λ out. torn.outside i there out;
    inside = λ from to.
        torn_erase_byte step (i - start_of step) _ _ is (torn.inside i there from to);
  };
}

-- is told by the range alone
pub torn_erase : (old new : List ℕ) (step : Step) → IsErase step
    → (Torn old step new ↔ IsTornErase (start_of step) (len_of step) old new)
torn_erase old new step is = (torn_by_range old new step is, range_is_torn old new step is)

-- a range of 0xFF keeps the length
pub length-erased : (flash : List ℕ) (at len : ℕ) → at + len ≤ length flash
    → length (erased flash at len) ≡ length flash
length-erased flash at len inside =
    length-spliced flash at len (replicate len 255)
    (length-replicate len 255 ∙ sym (length-part flash at len inside))

-- and byte by byte
pub get_or-erased : (flash : List ℕ) (at len i : ℕ) → at + len ≤ length flash → i < length flash
    → get_or (erased flash at len) i 0
    ≡ cond (nat_le at i && nat_lt i (at + len)) 255 (get_or flash i 0)
get_or-erased flash at len i inside there =
    let mid : List ℕ = replicate len 255 in
    let same : length mid ≡ length (take len (drop at flash)) =
    length-replicate len 255 ∙ sym (length-part flash at len inside) in
    elim (cases_lt i at) [
      | inl low ↦
          let out : (nat_le at i && nat_lt i (at + len)) ≡ false = grind (arith, nat_tests) in
          spliced_below flash at len mid same i low there
          ∙ ap (λ (b : Bool). cond b 255 (get_or flash i 0)) (sym out)
      | inr from ↦ elim (cases_lt i (at + len)) [
        | inl to ↦
            let within : (nat_le at i && nat_lt i (at + len)) ≡ true = grind (arith, nat_tests) in
            spliced_within flash at len mid same i from to there
            ∙ get_or-replicate len (i - at) 255 0 (omega arith)
            ∙ ap (λ (b : Bool). cond b 255 (get_or flash i 0)) (sym within)
        | inr past ↦
            let out : (nat_le at i && nat_lt i (at + len)) ≡ false = grind (arith, nat_tests) in
            spliced_above flash at len mid same i past there
            ∙ ap (λ (b : Bool). cond b 255 (get_or flash i 0)) (sym out)
      ]
    ]
