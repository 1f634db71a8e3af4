-- What holds of every torn flash.
use Rattle.std.specs.Prelude.{◌≡◌, ℕ, ◌-◌, ◌<◌, List, length, slice_index, bit_and, bit_or, refl, Option, Some, None}
use Rattle.std.proofs.Common.{lit<, sym, ◌∙◌, ap, subst, inl, inr, arith}
use Rattle.std.proofs.lemmas.List.{ext_get_or}
use Rattle.std.proofs.lemmas.Bool.{cases_lt}
use Rattle.std.proofs.lemmas.Nat.{and_assoc, and_comm, le_or_l}
use Rattle.std.proofs.lemmas.List.Elements.{All-get_or, All-from_get_or}
use Rattle.std.specs.List.{All}
use Rattle.std.specs.Int.Bits.{or_add_and, and_self}
use Rattle.nor_device.specs.declared.step.Step.{Step}
use Rattle.nor_device.specs.declared.step.Step.TheVariants.{Erase, Program, Block}
use Rattle.nor_device.specs.Flash.{start_of, end_of, applied, byte_after, changed_byte}
use Rattle.nor_device.specs.Torn.{IsTornProgram, IsTornByte, TornAt, Torn}
use Rattle.nor_device.specs.Make.{IsTornBy}
use Rattle.nor_device.proofs.FlashLaws.{length_applied, byte_applied, byte_after_outside, byte_after_inside}

-- no bit of the first is beside the second
and_of_or : (a b : ℕ) → bit_or a b ≡ b → bit_and a b ≡ a
and_of_or a b within = omega (arith, or_add_and a b, within)

or_of_and : (a b : ℕ) → bit_and a b ≡ a → bit_or a b ≡ b
or_of_and a b within = omega (arith, or_add_and a b, within)

-- a torn byte has the bits that the program clears, and may have more
pub torn_and : (data_byte old new : ℕ) → IsTornProgram data_byte old new
    → bit_and new data_byte ≡ bit_and old data_byte
torn_and data_byte old new torn =
    ap (λ (x : ℕ). bit_and x data_byte) (sym (and_of_or new old torn.sets_none)) ∙ torn.keeps

torn_program : (data_byte old new : ℕ) → bit_and new old ≡ new
    → bit_and new data_byte ≡ bit_and old data_byte → IsTornProgram data_byte old new
torn_program data_byte old new within kept = record {
  sets_none = or_of_and new old within;
  keeps = ap (λ (x : ℕ). bit_and x data_byte) within ∙ kept;
}

-- a byte that a program has not touched is torn of itself
pub torn_byte_self : (step : Step) (k byte : ℕ) → IsTornByte step k byte byte
torn_byte_self (Erase sector) k byte = λ small. small
torn_byte_self (Program at page) k byte =
    torn_program (slice_index page k) byte byte (and_self byte) refl
torn_byte_self (Block block) k byte = λ small. small

-- a byte that a program has changed is torn
pub torn_program_made : (data_byte byte : ℕ) → IsTornProgram data_byte byte (bit_and byte data_byte)
torn_program_made d byte =
    let within : bit_and (bit_and byte d) byte ≡ bit_and byte d = and_comm (bit_and byte d) byte
    ∙ sym (and_assoc d byte byte) ∙ ap (λ (x : ℕ). bit_and x d) (and_self byte) in
    let kept : bit_and (bit_and byte d) d ≡ bit_and byte d = and_assoc d byte d
    ∙ ap (λ (x : ℕ). bit_and byte x) (and_self d) in
    torn_program d byte (bit_and byte d) within kept

-- a byte that a step has changed is torn
pub torn_byte_changed : (step : Step) (k byte : ℕ)
    → IsTornByte step k byte (changed_byte step k byte)
torn_byte_changed (Erase sector) k byte = λ small. lit< tt
torn_byte_changed (Program at page) k byte = torn_program_made (slice_index page k) byte
torn_byte_changed (Block block) k byte = λ small. lit< tt

-- torn twice by one step is torn once
pub torn_byte_twice : (step : Step) (k a b c : ℕ) → IsTornByte step k a b → IsTornByte step k b c
    → IsTornByte step k a c
torn_byte_twice (Erase sector) k a b c first second = λ small. second (first small)
torn_byte_twice (Program at page) k a b c first second =
    let d = slice_index page k in
    let b_in_a = and_of_or b a first.sets_none in
    let c_in_b = and_of_or c b second.sets_none in
    let c_in_a : bit_and c a ≡ c = ap (λ (x : ℕ). bit_and x a) (sym c_in_b) ∙ and_assoc a c b
    ∙ ap (λ (x : ℕ). bit_and c x) b_in_a ∙ c_in_b in
    torn_program d a c c_in_a (torn_and d b c second ∙ torn_and d a b first)
torn_byte_twice (Block block) k a b c first second = λ small. second (first small)

-- what is left of a byte is a byte: an erase keeps it one, and a program sets no bit
pub torn_byte_small : (step : Step) (k old new : ℕ) → IsTornByte step k old new → old < 256
    → new < 256
torn_byte_small (Erase sector) k old new torn small = torn small
torn_byte_small (Program at page) k old new torn small =
    omega (arith, le_or_l new old, torn.sets_none)
torn_byte_small (Block block) k old new torn small = torn small

-- at every address
pub torn_at_small : (step : Step) (i old new : ℕ) → TornAt step i old new → old < 256 → new < 256
torn_at_small step i old new torn small = elim (cases_lt i (start_of step)) [
  | inl low ↦ subst (λ (b : ℕ). b < 256) (sym (torn.outside (inl low))) small
  | inr from ↦ elim (cases_lt i (end_of step)) [
    | inl to ↦ torn_byte_small step (i - start_of step) old new (torn.inside from to) small
    | inr after ↦ subst (λ (b : ℕ). b < 256) (sym (torn.outside (inr after))) small
  ]
]

-- so a torn flash of bytes is one of bytes
pub torn_small : (old new : List ℕ) (step : Step) → Torn old step new → All (λ b. b < 256) old
    → All (λ b. b < 256) new
torn_small old new step torn small =
    All-from_get_or (λ b. b < 256) new 0 (λ i inside.
    let there : i < length old = omega (arith, inside, torn.same_length) in
    torn_at_small step i (slice_index old i) (slice_index new i) (torn.byte i there)
    (All-get_or (λ b. b < 256) old i 0 there small))

-- the step makes of a torn byte what it makes of the byte before
pub changed_byte_torn : (step : Step) (k old new : ℕ) → IsTornByte step k old new
    → changed_byte step k new ≡ changed_byte step k old
changed_byte_torn (Erase sector) k old new torn = refl
changed_byte_torn (Program at page) k old new torn = torn_and (slice_index page k) old new torn
changed_byte_torn (Block block) k old new torn = refl

-- a flash that a step has not touched is torn of itself
pub torn_self : (flash : List ℕ) (step : Step) → Torn flash step flash
torn_self flash step = record {
  same_length = refl;
  byte = λ i inside. record {
    outside = λ out. refl;
    inside =
        λ from to. torn_byte_self step (i - start_of step) (slice_index flash i);
  };
}

-- a step that was made whole is one of those that it may leave
pub torn_applied : (flash : List ℕ) (step : Step) → Torn flash step (applied flash step)
torn_applied flash step = record {
  same_length = length_applied flash step;
  byte = λ i inside. record {
    outside = λ out. byte_applied flash step i inside
        ∙ byte_after_outside step i (slice_index flash i) out;
    inside = λ from to.
        let is = byte_applied flash step i inside
        ∙ byte_after_inside step i (slice_index flash i) from to in
        subst (λ (b : ℕ). IsTornByte step (i - start_of step) (slice_index flash i) b) (sym is)
        (torn_byte_changed step (i - start_of step) (slice_index flash i));
  };
}

-- torn twice by one step is torn once
pub torn_twice : (first second third : List ℕ) (step : Step) → Torn first step second
    → Torn second step third → Torn first step third
torn_twice first second third step one two = record {
  same_length = two.same_length ∙ one.same_length;
  byte = λ i inside.
      let within : i < length second = omega (arith, inside, one.same_length) in
      let a = one.byte i inside in
      let b = two.byte i within in
      record {
        outside = λ out. b.outside out ∙ a.outside out;
        inside = λ from to. torn_byte_twice step (i - start_of step) (slice_index first i)
            (slice_index second i) (slice_index third i) (a.inside from to) (b.inside from to);
      };
}

-- the step makes of a torn byte what it makes of the byte before
pub byte_after_torn : (step : Step) (i old new : ℕ) → TornAt step i old new
    → byte_after step i new ≡ byte_after step i old
byte_after_torn step i old new torn = elim (cases_lt i (start_of step)) [
  | inl low ↦ byte_after_outside step i new (inl low) ∙ torn.outside (inl low)
      ∙ sym (byte_after_outside step i old (inl low))
  | inr from ↦ elim (cases_lt i (end_of step)) [
    | inl to ↦ byte_after_inside step i new from to
        ∙ changed_byte_torn step (i - start_of step) old new (torn.inside from to)
        ∙ sym (byte_after_inside step i old from to)
    | inr after ↦ byte_after_outside step i new (inr after) ∙ torn.outside (inr after)
        ∙ sym (byte_after_outside step i old (inr after))
  ]
]

-- a step over its own torn flash is the step made once
pub applied_torn : (old new : List ℕ) (step : Step) → Torn old step new
    → applied new step ≡ applied old step
applied_torn old new step torn =
    ext_get_or 0 (applied new step) (applied old step)
    (length_applied new step ∙ torn.same_length ∙ sym (length_applied old step)) (λ i inside.
    let in_new : i < length new = omega (arith, inside, length_applied new step) in
    let in_old : i < length old = omega (arith, in_new, torn.same_length) in
    byte_applied new step i in_new
    ∙ byte_after_torn step i (slice_index old i) (slice_index new i) (torn.byte i in_old)
    ∙ sym (byte_applied old step i in_old))

-- told bytes that a step has not touched are torn of themselves
pub torn_untouched : (step : Step) (old new : Option (List ℕ)) → new ≡ old → IsTornBy step old new
torn_untouched step None new same = tt
torn_untouched step (Some flash) new same = (flash, same, torn_self flash step)
