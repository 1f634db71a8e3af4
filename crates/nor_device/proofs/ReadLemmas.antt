-- What a flash with marks reads, after a sector was filled, sectors were marked, or bytes were programmed.
use Rattle.std.proofs.Common.{◌≡◌, ◌⊎◌, ℕ, ◌+◌, ◌*◌, ◌/◌, ◌-◌, ◌<◌, ◌≤◌, Bool, true, false, ◌&&◌, cond, nat_lt, nat_le, List, ◌++◌, length, take, drop, get_or, set, refl, sym, ◌∙◌, ap, inl, inr, arith, get_or-set_other}
use Rattle.std.proofs.lemmas.List.{append-nil, drop_all, take_all}
use Rattle.std.proofs.lemmas.Bool.{cases_eq, cases_lt}
use Rattle.std.proofs.lemmas.Bool.Decides.{nat_tests}
use Rattle.nor_device.specs.declared.marked_flash.MarkedFlash.TheInside.{Inside}
use Rattle.nor_device.specs.declared.step.Step.TheVariants.{Program}
use Rattle.nor_device.specs.Flash.{applied, erased, byte_after}
use Rattle.nor_device.specs.Marks.{is_marked, marked_as, as_read, AreErased}
use Rattle.nor_device.specs.Marked.{Marked, marked_of}
use Rattle.nor_device.proofs.EraseLaws.{length-erased, get_or-erased}
use Rattle.nor_device.proofs.FlashLaws.{length_applied, byte_applied, byte_after_outside}
use Rattle.nor_device.proofs.CoverLemmas.{length-covered, get_or-covered_flash, is_covered_flash, covered_byte}
use Rattle.nor_device.proofs.MarksLemmas.{get_or-marked_as}

-- as many bytes are read as are stored
pub length-read : (flash : Inside) (now : Marked) → marked_of flash ≡ now
    → length now.bytes ≡ length flash.stored.items
length-read flash now view =
    ap (λ (m : Marked). length m.bytes) (sym view)
    ∙ length-covered (is_marked flash.marks) 0 flash.stored.items

-- what is left of a vector of which all bytes were written
pub overwritten : (items new : List ℕ) (len : ℕ) → len ≡ length items → length new ≡ length items
    → take len (new ++ drop (length new) items) ≡ new
overwritten items new len is same =
    ap (λ (rest : List ℕ). take len (new ++ rest)) (drop_all (length new) items (omega (arith, same)))
    ∙ ap (take len) (append-nil new) ∙ take_all len new (omega (arith, is, same))

-- one byte in either case
either : (b : Bool) (byte : ℕ) → cond b byte byte ≡ byte
either true byte = refl
either false byte = refl

in_or_out : (b mark : Bool) (byte : ℕ)
    → cond b 255 (cond mark 255 byte) ≡ cond (cond b true mark) 255 byte
in_or_out true mark byte = refl
in_or_out false mark byte = refl

-- a place in a range of sectors
range_test : (first last k : ℕ) → first ≤ last
    → (nat_le (first * 4096) k && nat_lt k (first * 4096 + (last - first) * 4096))
    ≡ (nat_le first (k / 4096) && nat_lt (k / 4096) last)
range_test first last k order = grind (arith, nat_tests)

-- a program of a byte that is not covered, and no program of one that is
after_covered : (marks : List Bool) (page : List ℕ) (at k byte : ℕ)
    → (at ≤ k → k < at + length page → get_or marks (k / 4096) false ≡ false)
    → byte_after (Program at page) k (covered_byte (is_marked marks) k byte)
    ≡ covered_byte (is_marked marks) k (byte_after (Program at page) k byte)
after_covered marks page at k byte none =
    let step = Program at page in
    let out : (k < at) ⊎ (at + length page ≤ k)
    → byte_after step k (covered_byte (is_marked marks) k byte)
    ≡ covered_byte (is_marked marks) k (byte_after step k byte) =
    λ away. byte_after_outside step k (covered_byte (is_marked marks) k byte) away
    ∙ ap (covered_byte (is_marked marks) k) (sym (byte_after_outside step k byte away)) in
    elim (cases_lt k at) [
      | inl low ↦ out (inl low)
      | inr from ↦ elim (cases_lt k (at + length page)) [
        | inl to ↦ rw (none from to) refl
        | inr past ↦ out (inr past)
      ]
    ]

-- a marked sector that is filled needs no mark
pub settled : (marks : List Bool) (stored : List ℕ) (sector : ℕ)
    → get_or marks sector false ≡ true → sector * 4096 + 4096 ≤ length stored
    → as_read (set marks sector false) (erased stored (sector * 4096) 4096) ≡ as_read marks stored
settled marks stored sector is inside =
    let at = sector * 4096 in
    let filled = erased stored at 4096 in
    let less = set marks sector false in
    let len = length-erased stored at 4096 inside in
    is_covered_flash (is_marked marks) stored (as_read less filled)
    (length-covered (is_marked less) 0 filled ∙ len) (λ k there.
    let byte = get_or stored k 0 in
    get_or-covered_flash (is_marked less) filled k (omega (arith, there, len))
    ∙ ap (λ (b : ℕ). cond (get_or less (k / 4096) false) 255 b)
    (get_or-erased stored at 4096 k inside there)
    ∙ (elim (cases_eq (k / 4096) sector) as (λ _. cond (get_or less (k / 4096) false) 255
    (cond (nat_le at k && nat_lt k (at + 4096)) 255 byte) ≡ cond (get_or marks (k / 4096) false) 255 byte) [
      | inl same ↦
          let here : (nat_le at k && nat_lt k (at + 4096)) ≡ true = grind (arith, nat_tests) in
          rw here (either (get_or less (k / 4096) false) 255
          ∙ ap (λ (b : Bool). cond b 255 byte) (sym (ap (λ (s : ℕ). get_or marks s false) same ∙ is)))
      | inr other ↦
          let away : (nat_le at k && nat_lt k (at + 4096)) ≡ false = grind (arith, nat_tests) in
          rw away (ap (λ (b : Bool). cond b 255 byte)
          (get_or-set_other marks sector (k / 4096) false false other))
    ]))

-- sectors that are marked read as erased
pub marked_erased : (marks : List Bool) (stored : List ℕ) (first last : ℕ) → first ≤ last
    → last * 4096 ≤ length stored → length stored ≤ length marks * 4096
    → as_read (marked_as true first last marks) stored
    ≡ erased (as_read marks stored) (first * 4096) ((last - first) * 4096)
marked_erased marks stored first last order inside many =
    let at = first * 4096 in
    let len = (last - first) * 4096 in
    let more = marked_as true first last marks in
    let read = as_read marks stored in
    let long = length-covered (is_marked marks) 0 stored in
    let fits : at + len ≤ length read = omega (arith, long, order, inside) in
    sym (is_covered_flash (is_marked more) stored (erased read at len)
    (length-erased read at len fits ∙ long) (λ k there.
    let byte = get_or stored k 0 in
    let k_in : k / 4096 < length marks = omega (arith, there, many) in
    get_or-erased read at len k fits (omega (arith, there, long))
    ∙ ap (λ (b : ℕ). cond (nat_le at k && nat_lt k (at + len)) 255 b)
    (get_or-covered_flash (is_marked marks) stored k there)
    ∙ in_or_out (nat_le at k && nat_lt k (at + len)) (get_or marks (k / 4096) false) byte
    ∙ ap (λ (b : Bool). cond (cond b true (get_or marks (k / 4096) false)) 255 byte)
    (range_test first last k order)
    ∙ ap (λ (b : Bool). cond b 255 byte) (sym (get_or-marked_as true first last marks (k / 4096) k_in))))

-- marked sectors read as erased
pub read_erased : (marks : List Bool) (stored : List ℕ) → AreErased marks (as_read marks stored)
read_erased marks stored = λ i inside is.
    get_or-covered_flash (is_marked marks) stored i
    (omega (arith, inside, length-covered (is_marked marks) 0 stored))
    ∙ ap (λ (b : Bool). cond b 255 (get_or stored i 0)) is

-- a program where no sector is marked
pub program_read : (marks : List Bool) (stored page : List ℕ) (at : ℕ)
    → ((i : ℕ) → at ≤ i → i < at + length page → i < length stored → get_or marks (i / 4096) false ≡ false)
    → as_read marks (applied stored (Program at page)) ≡ applied (as_read marks stored) (Program at page)
program_read marks stored page at none =
    let step = Program at page in
    let read = as_read marks stored in
    let made = applied stored step in
    let long = length-covered (is_marked marks) 0 stored in
    sym (is_covered_flash (is_marked marks) made (applied read step)
    (length_applied read step ∙ long ∙ sym (length_applied stored step)) (λ k h.
    let there : k < length stored = omega (arith, h, length_applied stored step) in
    byte_applied read step k (omega (arith, there, long))
    ∙ ap (byte_after step k) (get_or-covered_flash (is_marked marks) stored k there)
    ∙ after_covered marks page at k (get_or stored k 0) (λ from to. none k from to there)
    ∙ ap (covered_byte (is_marked marks) k) (sym (byte_applied stored step k there))))
