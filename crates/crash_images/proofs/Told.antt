-- What calls on the device inside leave of the bytes that it tells.
use Rattle.std.proofs.Common.{◌≡◌, ◌<◌, ◌≤◌, ◌+◌, ℕ, List, [], ◌++◌, length, get_or, take, drop, Option, Some, None, Result, Ok, Err, IfErr, OnOk, OnErr, IfSome, true, ◌-◌, slice_index, refl, sym, ◌∙◌, ap, subst, inl, inr, arith, take-append-drop, length-drop, zero-add}
use Rattle.std.proofs.lemmas.List.{append-nil, length-take, take-take, drop-take}
use Rattle.nor_device.specs.declared.step.Step.{Step}
use Rattle.nor_device.specs.declared.step.Step.TheVariants.{Erase, Program, Block}
use Rattle.nor_device.specs.declared.nor.StepEnd.{StepEnd}
use Rattle.nor_device.specs.declared.nor.NorFault.{NorFault}
use Rattle.nor_device.specs.declared.nor.Ready.{Ready}
use Rattle.nor_device.specs.Flash.{start_of, len_of, end_of, applied, changed_byte}
use Rattle.nor_device.specs.Torn.{IsTornByte, Torn}
use Rattle.nor_device.specs.Nor.{IsLeftTorn, one_more, end_by, part_of}
use Rattle.nor_device.specs.Make.{IsAfter, IsTornBy, IsMissed}
use Rattle.nor_device.proofs.Missed.{missed_allowed}
use Rattle.nor_device.proofs.TornLaws.{torn_applied}
use Rattle.crash_images.specs.Tear.{with_mask_bits, torn_by, is_erase, masked}
use Rattle.crash_images.proofs.TearLaws.{tear_is_torn, applied_masked, torn_masked, applied_nothing, applied_more, applied_erased, length_with_mask_bits, masked_more}
use Rattle.crash_images.specs.Agrees.{ChangesWithin, StaysOutside}
use Rattle.crash_images.proofs.AgreesLaws.{within_of_torn, within_self, within_wider, within_twice}
use Rattle.crash_images.specs.TearStep.{MayRefuse, TearLeaves, IsTornByNumber, IsMaskedBy}
use Rattle.crash_images.specs.Cut.{CutMayEnd}
use Rattle.crash_images.specs.declared.cut.CutSetting.{CutSetting}

-- a program with the bits of the masks set in its data leaves what the tear number names
pub program_torn : (at tear : ℕ) (page bytes : List ℕ) (old new : Option (List ℕ))
    → bytes ≡ with_mask_bits tear 0 page → IsAfter (Program at bytes) old new
    → IsTornByNumber (Program at page) tear old new
program_torn at tear page bytes None new is after = tt
program_torn at tear page bytes (Some flash) new is after = after
    ∙ ap (λ (b : List ℕ). Some (applied flash (Program at b))) is
    ∙ ap Some (applied_masked flash at tear page)

-- where it is refused, it leaves the program torn
pub program_refused : (at tear : ℕ) (page bytes : List ℕ) (old new : Option (List ℕ))
    → bytes ≡ with_mask_bits tear 0 page → IsTornBy (Program at bytes) old new
    → IsTornBy (Program at page) old new
program_refused at tear page bytes None new is torn = tt
program_refused at tear page bytes (Some flash) new is torn = (
  torn.0,
  torn.1,
  torn_masked flash torn.0 at tear page
      (subst (λ (b : List ℕ). Torn flash (Program at b) torn.0) is torn.2),
)

-- a step that was missed shows that the setting allows a refusal
pub missed_by : {S : Type 0} (may_end : S → ℕ → StepEnd → Type 0)
    (may_tear : S → ℕ → List ℕ → Step → List ℕ → Type 0)
    (may_refuse : S → ℕ → NorFault → Type 0) (must_refuse : S → ℕ → Type 0) (old mid : S)
    (step : Step) (count now : ℕ) (told left : Option (List ℕ)) (why : NorFault) → mid ≡ old
    → IsMissed may_end may_tear may_refuse must_refuse mid step count now told left why
    → MayRefuse may_end may_refuse old
missed_by may_end may_tear may_refuse must_refuse old mid step count now told left why same missed =
    elim (missed_allowed may_end may_tear may_refuse must_refuse mid step count now told left why
    missed) [
      | inl refused ↦ (count, why, inl (subst (λ s. may_refuse s count why) same refused))
      | inr ended ↦
          (one_more count, why, inr (subst (λ s. may_end s (one_more count) (end_by why)) same ended))
    ]

-- the same of an answer
pub missed : {S : Type 0} (may_end : S → ℕ → StepEnd → Type 0)
    (may_tear : S → ℕ → List ℕ → Step → List ℕ → Type 0)
    (may_refuse : S → ℕ → NorFault → Type 0) (must_refuse : S → ℕ → Type 0) (setting : S)
    (step : Step) (count now : ℕ) (told left : Option (List ℕ)) (r : Result (Unit {0}) NorFault)
    → IfErr r (IsMissed may_end may_tear may_refuse must_refuse setting step count now told left)
    → OnErr r (MayRefuse may_end may_refuse setting)
missed may_end may_tear may_refuse must_refuse setting step count now told left (Ok x) allowed =
    allowed
missed may_end may_tear may_refuse must_refuse setting step count now told left (Err why) allowed =
    missed_by may_end may_tear may_refuse must_refuse setting setting step count now told left why
    refl allowed

-- nothing was put back yet
pub put_none : (at : ℕ) (told : Option (List ℕ)) → IsAfter (Program at []) told told
put_none at None = tt
put_none at (Some flash) = ap Some (sym (applied_nothing flash at))

-- one page more was put back
pub put_more : (at next : ℕ) (front page : List ℕ) (old mid new : Option (List ℕ))
    → next ≡ at + length front → IsAfter (Program at front) old mid
    → IsAfter (Program next page) mid new → IsAfter (Program at (front ++ page)) old new
put_more at next front page None mid new is one two = tt
put_more at next front page (Some flash) mid new is one two =
    let two_on = subst (λ (m : Option (List ℕ)). IsAfter (Program next page) m new) one two in
    two_on ∙ ap (λ (n : ℕ). Some (applied (applied flash (Program at front)) (Program n page))) is
    ∙ ap Some (applied_more flash at front page)

-- what was put back changed only its range
pub put_outside : (at end : ℕ) (bytes : List ℕ) (old new : Option (List ℕ))
    → at + length bytes ≤ end → IsAfter (Program at bytes) old new → StaysOutside at end old new
put_outside at end bytes None new long after = tt
put_outside at end bytes (Some flash) new long after =
    let step = Program at bytes in (
      applied flash step,
      after,
      within_wider at (at + length bytes) at end flash (applied flash step) (omega arith) long
          (within_of_torn flash (applied flash step) step (torn_applied flash step)),
    )

-- and where a page was refused, too
pub put_refused : (at end next : ℕ) (page : List ℕ) (old mid new : Option (List ℕ)) → at ≤ next
    → next + length page ≤ end → StaysOutside at end old mid → IsTornBy (Program next page) mid new
    → StaysOutside at end old new
put_refused at end next page None mid new low high one two = tt
put_refused at end next page (Some flash) mid new low high one two =
    let step = Program next page in
    let torn = subst (λ (m : Option (List ℕ)). IsTornBy step m new) one.1 two in (
      torn.0,
      torn.1,
      within_twice at end flash one.0 torn.0 one.2
          (within_wider next (next + length page) at end one.0 torn.0 low high
          (within_of_torn one.0 torn.0 step torn.2)),
    )

-- the front and the next page are a longer front
front_and_page : (done : ℕ) (part : List ℕ)
    → take done part ++ take (done + 256 - done) (drop done part) ≡ take (done + 256) part
front_and_page done part =
    let page : done + 256 - done ≡ 256 = omega arith in
    ap (λ (n : ℕ). take done part ++ take n (drop done part)) page
    ∙ ap (λ (l : List ℕ). l ++ take 256 (drop done part))
    (sym (take-take done (done + 256) part (omega arith)))
    ∙ ap (λ (l : List ℕ). take done (take (done + 256) part) ++ l) (sym (drop-take done 256 part))
    ∙ take-append-drop done (take (done + 256) part)

-- the next page was put back
pub page_put : (at done : ℕ) (part : List ℕ) (old mid new : Option (List ℕ))
    → done + 256 ≤ length part → IsAfter (Program at (take done part)) old mid
    → IsAfter (Program (at + done) (take (done + 256 - done) (drop done part))) mid new
    → IsAfter (Program at (take (done + 256) part)) old new
page_put at done part old mid new inside one two =
    let long : at + done ≡ at + length (take done part) = omega (arith, length-take done part) in
    subst (λ (l : List ℕ). IsAfter (Program at l) old new) (front_and_page done part)
    (put_more at (at + done) (take done part) _ old mid new long one two)

-- or it was refused
pub page_refused : (at done : ℕ) (part : List ℕ) (old mid new : Option (List ℕ))
    → done + 256 ≤ length part → IsAfter (Program at (take done part)) old mid
    → IsTornBy (Program (at + done) (take (done + 256 - done) (drop done part))) mid new
    → StaysOutside at (at + length part) old new
page_refused at done part old mid new inside one two =
    let front : at + length (take done part) ≤ at + length part =
    omega (arith, length-take done part) in
    let page : at + done + length (take (done + 256 - done) (drop done part)) ≤ at + length part =
    omega (arith, length-take (done + 256 - done) (drop done part)) in
    put_refused at (at + length part) (at + done) _ old mid new (omega arith) page
    (put_outside at (at + length part) (take done part) old mid front one) two

-- an erase may leave any byte
erases_any : (erase : Step) → is_erase erase ≡ true → (k a b : ℕ) → (a < 256 → b < 256)
    → IsTornByte erase k a b
erases_any (Erase sector) erases k a b small = small
erases_any (Program at page) erases k a b small = absurd (cc erases)
erases_any (Block block) erases k a b small = small

-- what has changed only the range of an erase may be left of it
within_torn : (erase : Step) → is_erase erase ≡ true → (flash left : List ℕ)
    → ChangesWithin (start_of erase) (end_of erase) flash left → Torn flash erase left
within_torn erase erases flash left within = record {
  same_length = within.same.same_length;
  byte = λ i inside. record {
    outside = λ out. within.same.byte i inside out;
    inside = λ from to. erases_any erase erases (i - start_of erase) (slice_index flash i)
        (slice_index left i) (within.small i inside);
  };
}

-- it sets each byte to 0xFF
erases_ones : (erase : Step) → is_erase erase ≡ true → (k b : ℕ) → changed_byte erase k b ≡ 255
erases_ones (Erase sector) erases k b = refl
erases_ones (Program at page) erases k b = absurd (cc erases)
erases_ones (Block block) erases k b = refl

-- the erase of a range, and its bytes with the bits of their masks set put back over it, set these bits
pub erase_masked : (erase : Step) → is_erase erase ≡ true
    → (at tear i len : ℕ) (bytes masks : List ℕ) (old same mid new : Option (List ℕ))
    → at ≡ start_of erase → len ≡ len_of erase
    → IfSome old (λ flash. bytes ≡ part_of flash at len) → masks ≡ with_mask_bits tear i bytes
    → ((k : ℕ) → get_or masks k 0 < 256)
    → ((flash : List ℕ) → old ≡ Some flash → end_of erase ≤ length flash)
    → same ≡ old → IsAfter erase same mid → IsAfter (Program at masks) mid new
    → IsMaskedBy at len tear i old new
erase_masked erase erases at tear i len bytes masks None same mid new at_is len_is read mask small
    inside is one two = tt
erase_masked erase erases at tear i len bytes masks
    (Some flash) same mid new at_is len_is read mask small inside is one two =
    let start = start_of erase in
    let part = take (len_of erase) (drop start flash) in
    let one_on = subst (λ (m : Option (List ℕ)). IsAfter erase m mid) is one in
    let two_on = subst (λ (m : Option (List ℕ)). IsAfter (Program at masks) m new) one_on two in
    let bytes_are : bytes ≡ part = read ∙ ap (λ (n : ℕ). take n (drop at flash)) len_is
    ∙ ap (λ (n : ℕ). take (len_of erase) (drop n flash)) at_is in
    let masks_are : masks ≡ with_mask_bits tear i part = mask ∙ ap (with_mask_bits tear i) bytes_are in
    let room = inside flash refl in
    let part_len : length part ≡ len_of erase =
    omega (arith, room, length-take (len_of erase) (drop start flash), length-drop start flash)
    in
    let long : length masks ≡ len_of erase = ap length masks_are
    ∙ length_with_mask_bits tear i part ∙ part_len in
    two_on
    ∙ ap (λ (n : ℕ). Some (applied (applied flash erase) (Program n masks))) at_is
    ∙ ap Some (applied_erased flash erase (erases_ones erase erases) masks long room small)
    ∙ ap (λ (l : List ℕ). Some (take start flash ++ l ++ drop (end_of erase) flash)) masks_are
    ∙ ap (λ (n : ℕ). Some (masked flash n (len_of erase) tear i)) (sym at_is)
    ∙ ap (λ (n : ℕ). Some (masked flash at n tear i)) (sym len_is)

-- bytes that are the same have not changed outside a range
pub same_outside : (start end : ℕ) (old new : Option (List ℕ)) → new ≡ old
    → StaysOutside start end old new
same_outside start end None new is = tt
same_outside start end (Some flash) new is = (flash, is, within_self start end flash)

-- nor have those that a step was torn over outside its range
pub torn_outside : (step : Step) (at len : ℕ) (old same new : Option (List ℕ)) → at ≡ start_of step
    → len ≡ len_of step → same ≡ old → IsTornBy step same new → StaysOutside at (at + len) old new
torn_outside step at len None same new at_is len_is is torn = tt
torn_outside step at len (Some flash) same new at_is len_is is torn =
    let torn_on = subst (λ (m : Option (List ℕ)). IsTornBy step m new) is torn in
    let low : at ≤ start_of step = omega arith in
    let high : end_of step ≤ at + len = omega arith in (
      torn_on.0,
      torn_on.1,
      within_wider (start_of step) (end_of step) at (at + len) flash torn_on.0 low high
          (within_of_torn flash torn_on.0 step torn_on.2),
    )

-- what was put back, or refused in between, changed only its range
pub put_either : (at len : ℕ) (bytes : List ℕ) (old new : Option (List ℕ))
    (r : Result (Unit {0}) NorFault) → length bytes ≡ len
    → OnOk r (IsAfter (Program at bytes) old new)
    → OnErr r (StaysOutside at (at + length bytes) old new) → StaysOutside at (at + len) old new
put_either at len bytes old new (Ok x) long put refused =
    let end : at + length bytes ≤ at + len = omega (arith, long) in put_outside at (at + len) bytes old new end put
put_either at len bytes old new (Err why) long put refused =
    subst (λ (n : ℕ). StaysOutside at (at + n) old new) long refused

-- the erase of a range, and what was put back over it, changed only this range
pub erase_outside : (erase : Step) (at len : ℕ) (old same mid new : Option (List ℕ))
    → at ≡ start_of erase → len ≡ len_of erase → same ≡ old → IsAfter erase same mid
    → StaysOutside at (at + len) mid new → StaysOutside at (at + len) old new
erase_outside erase at len None same mid new at_is len_is is one two = tt
erase_outside erase at len (Some flash) same mid new at_is len_is is one two =
    let one_on = subst (λ (m : Option (List ℕ)). IsAfter erase m mid) is one in
    let two_on = subst (λ (m : Option (List ℕ)). StaysOutside at (at + len) m new) one_on two in
    let first = within_of_torn flash (applied flash erase) erase (torn_applied flash erase) in
    let low : at ≤ start_of erase = omega arith in
    let high : end_of erase ≤ at + len = omega arith in
    let wider = within_wider (start_of erase) (end_of erase) at (at + len) flash
    (applied flash erase) low high first in (
      two_on.0,
      two_on.1,
      within_twice at (at + len) flash (applied flash erase) two_on.0 wider two_on.2,
    )

-- what changed only the range of an erase is the erase torn
pub outside_torn : (erase : Step) → is_erase erase ≡ true → (at len : ℕ)
    (old new : Option (List ℕ)) → at ≡ start_of erase → len ≡ len_of erase
    → StaysOutside at (at + len) old new → IsTornBy erase old new
outside_torn erase erases at len None new at_is len_is within = tt
outside_torn erase erases at len (Some flash) new at_is len_is within =
    let low : start_of erase ≤ at = omega arith in
    let high : at + len ≤ end_of erase = omega arith in (
      within.0,
      within.1,
      within_torn erase erases flash within.0
          (within_wider at (at + len) (start_of erase) (end_of erase) flash within.0 low high within.2),
    )

-- one part more changed only the wider range
pub outside_more : (low high at len : ℕ) (old mid new : Option (List ℕ)) → low ≤ at
    → at + len ≤ high → StaysOutside low high old mid → StaysOutside at (at + len) mid new
    → StaysOutside low high old new
outside_more low high at len None mid new from to one two = tt
outside_more low high at len (Some flash) mid new from to one two =
    let two_on = subst (λ (m : Option (List ℕ)). StaysOutside at (at + len) m new) one.1 two in (
      two_on.0,
      two_on.1,
      within_twice low high flash one.0 two_on.0 one.2
          (within_wider at (at + len) low high one.0 two_on.0 from to two_on.2),
    )

-- no byte was masked yet
pub masked_none : (at tear : ℕ) (told : Option (List ℕ)) → IsMaskedBy at 0 tear 0 told told
masked_none at tear None = tt
masked_none at tear (Some flash) =
    let same : at ≡ at + 0 = omega arith in
    ap Some (sym (take-append-drop at flash)
    ∙ ap (λ (l : List ℕ). l ++ drop at flash) (sym (append-nil (take at flash)))
    ∙ ap (λ (n : ℕ). take at flash ++ [] ++ drop n flash) same)

-- one part more was masked
pub masked_next : (at len more next first tear : ℕ) (old mid new : Option (List ℕ))
    → ((flash : List ℕ) → old ≡ Some flash → at + len ≤ length flash) → next ≡ at + len
    → first ≡ len → IsMaskedBy at len tear 0 old mid → IsMaskedBy next more tear first mid new
    → IsMaskedBy at (len + more) tear 0 old new
masked_next at len more next first tear None mid new inside next_is first_is one two = tt
masked_next at len more next first tear (Some flash) mid new inside next_is first_is one two =
    let two_on = subst (λ (m : Option (List ℕ)). IsMaskedBy next more tear first m new) one two in
    two_on
    ∙ ap (λ (n : ℕ). Some (masked (masked flash at len tear 0) n more tear first)) next_is
    ∙ ap (λ (n : ℕ). Some (masked (masked flash at len tear 0) (at + len) more tear n)) (first_is ∙ sym (zero-add len))
    ∙ ap Some (masked_more flash at len more tear 0 (inside flash refl))

-- what a step leaves is the same from told bytes that are the same
pub refused_on : (step : Step) (old same new : Option (List ℕ)) → same ≡ old
    → IsTornBy step same new → IsTornBy step old new
refused_on step old same new is torn = subst (λ (m : Option (List ℕ)). IsTornBy step m new) is torn

-- a step that was torn is left torn, by the number or where a refusal is allowed
pub left_torn : {S : Type 0} (may_end : S → ℕ → StepEnd → Type 0)
    (may_refuse : S → ℕ → NorFault → Type 0) (setting : S) (tear : ℕ) (step : Step)
    (old new : Option (List ℕ)) (r : Result (Unit {0}) NorFault)
    → OnOk r (IsTornByNumber step tear old new) → OnErr r (IsTornBy step old new)
    → OnErr r (MayRefuse may_end may_refuse setting)
    → IsLeftTorn (TearLeaves may_end may_refuse setting tear) (Some step) old new
left_torn may_end may_refuse setting tear step None new r torn refused allowed = tt
left_torn may_end may_refuse setting tear step (Some flash) new (Ok x) torn refused allowed =
    (torn_by flash step tear, torn, tear_is_torn flash step tear, inl refl)
left_torn may_end may_refuse setting tear step (Some flash) new (Err why) torn refused allowed =
    (refused.0, refused.1, refused.2, inr allowed)

-- a poll that the device inside refused leaves its step torn
pub poll_refused : {S : Type 0} (may_end : S → ℕ → StepEnd → Type 0)
    (may_refuse : S → ℕ → NorFault → Type 0) (may_tear : S → ℕ → List ℕ → Step → List ℕ → Type 0)
    (setting : S) (steps tear : ℕ) (running : Option Step) (old new : Option (List ℕ))
    (r : Result Ready NorFault)
    → OnErr r (IsLeftTorn (may_tear setting steps) running old new)
    → IfErr r (λ why. may_end setting steps (end_by why))
    → OnErr r (IsLeftTorn (TearLeaves may_end may_refuse setting tear) running old new)
poll_refused may_end may_refuse may_tear setting steps tear running old new (Ok x) torn ended = torn
poll_refused may_end may_refuse may_tear setting steps tear None old new (Err why) torn ended = tt
poll_refused may_end may_refuse may_tear setting steps tear (Some step) None new
    (Err why) torn ended = tt
poll_refused may_end may_refuse may_tear setting steps tear (Some step) (Some flash) new
    (Err why) torn ended = (torn.0, torn.1, torn.2, inr (steps, why, inr ended))

-- and ends it as the setting inside allows
pub poll_ended : {S : Type 0} (may_end : S → ℕ → StepEnd → Type 0)
    (may_refuse : S → ℕ → NorFault → Type 0) (set : CutSetting S) (steps n : ℕ)
    (r : Result Ready NorFault)
    → IfErr r (λ why. may_end set.inner steps (end_by why))
    → IfErr r (λ why. CutMayEnd may_end may_refuse set n (end_by why))
poll_ended may_end may_refuse set steps n (Ok x) ended = ended
poll_ended may_end may_refuse set steps n (Err why) ended =
    inr ((steps, why, inr ended), (why, refl))
