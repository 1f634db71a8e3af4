-- What each kind of step makes of the marks.
use Rattle.std.proofs.Common.{◌≡◌, ℕ, ◌+◌, ◌*◌, ◌/◌, ◌<◌, Bool, true, false, List, length, set, sym, ◌∙◌, ap, inl, inr, arith, true≢false}
use Rattle.std.proofs.lemmas.List.{get_or_past}
use Rattle.std.proofs.lemmas.Bool.{cases_lt}
use Rattle.nor_device.specs.declared.step.Step.TheVariants.{Erase, Program}
use Rattle.nor_device.specs.Flash.{IsPageLength, IsInOnePage}
use Rattle.nor_device.specs.Marks.{is_marked, marked_count, marked_as, marks_after}
use Rattle.nor_device.proofs.MarksLemmas.{marked_as-one, marked_more, marked_less, set_same}

-- an erase marks its sector
pub erase_marks : (marks : List Bool) (sector : ℕ)
    → marks_after (Erase sector) marks ≡ set marks sector true
erase_marks marks sector =
    let first : sector * 4096 / 4096 ≡ sector = omega arith in
    let last : (sector * 4096 + 4096 + 4095) / 4096 ≡ sector + 1 = omega arith in
    ap (λ (n : ℕ). marked_as true n ((sector * 4096 + 4096 + 4095) / 4096) marks) first
    ∙ ap (λ (n : ℕ). marked_as true sector n marks) last ∙ marked_as-one true sector marks

-- a program takes the mark of its sector
pub program_clears : (marks : List Bool) (at : ℕ) (page : List ℕ) → IsPageLength page
    → IsInOnePage (Program at page) → marks_after (Program at page) marks ≡ set marks (at / 4096) false
program_clears marks at page long paged =
    let last : (at + length page + 4095) / 4096 ≡ at / 4096 + 1 = omega (arith, long, paged) in
    ap (λ (n : ℕ). marked_as false (at / 4096) n marks) last ∙ marked_as-one false (at / 4096) marks

-- there is a sector for each mark
marked_inside : (marks : List Bool) (sector : ℕ) → is_marked marks sector ≡ true
    → sector < length marks
marked_inside marks sector is = elim (cases_lt sector (length marks)) [
  | inl inside ↦ inside
  | inr past ↦ absurd (true≢false (sym is ∙ get_or_past marks sector false past))
]

pub erase_counts : (marks : List Bool) (sector : ℕ) → sector < length marks
    → is_marked marks sector ≡ false
    → marked_count (marks_after (Erase sector) marks) ≡ marked_count marks + 1
erase_counts marks sector inside none =
    ap marked_count (erase_marks marks sector) ∙ marked_more marks sector inside none

pub erase_again : (marks : List Bool) (sector : ℕ) → is_marked marks sector ≡ true
    → marks_after (Erase sector) marks ≡ marks
erase_again marks sector is = erase_marks marks sector ∙ set_same marks sector true is

pub program_counts : (marks : List Bool) (at : ℕ) (page : List ℕ) → IsPageLength page
    → IsInOnePage (Program at page) → is_marked marks (at / 4096) ≡ true
    → marked_count (marks_after (Program at page) marks) + 1 ≡ marked_count marks
program_counts marks at page long paged is =
    ap (λ (m : List Bool). marked_count m + 1) (program_clears marks at page long paged)
    ∙ marked_less marks (at / 4096) (marked_inside marks (at / 4096) is) is

pub program_else : (marks : List Bool) (at : ℕ) (page : List ℕ) → IsPageLength page
    → IsInOnePage (Program at page) → is_marked marks (at / 4096) ≡ false
    → marks_after (Program at page) marks ≡ marks
program_else marks at page long paged none =
    program_clears marks at page long paged ∙ set_same marks (at / 4096) false none
