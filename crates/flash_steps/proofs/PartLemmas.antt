-- The steps of a write and of an erase stay in their partition.
use Rattle.std.proofs.Common.{◌≡◌, ◌≤◌, ℕ, ◌+◌, ◌%◌, Bool, true, false, List, [], ◌∷◌, length, Result, Ok, Err, refl, sym, ap, ◌∙◌, arith}
use Rattle.std.specs.Prelude.{nat_le, ◌==◌, not, ◌||◌, if◌then◌else◌}
use Rattle.std.specs.List.{AllByRecursion}
use Rattle.std.proofs.lemmas.Bool.Decides.{nat_tests}
use Rattle.nor_device.specs.declared.step.Step.{Step}
use Rattle.partition_table.specs.declared.row.Row.{Row}
use Rattle.partition_table.specs.Rules.{FitsFlash}
use Rattle.flash_steps.specs.declared.refusal.PartNo.{PartNo}
use Rattle.flash_steps.specs.declared.refusal.PartNo.TheVariants.{Unaligned}
use Rattle.flash_steps.specs.Parts.{LiesInPart, part_erase_steps, part_write_steps}
use Rattle.flash_steps.specs.Rules.{IsOpenFor, and_then, erase_checked, open_row, ranged, write_checked}
use Rattle.flash_steps.specs.Steps.{LiesIn, erase_steps, write_steps}
use Rattle.flash_steps.proofs.EraseLemmas.{inside_of_erase}
use Rattle.flash_steps.proofs.RuleLemmas.{open_for, part_of}
use Rattle.flash_steps.proofs.WriteLemmas.{inside_of_write}

-- a row whose range is tested
ranged_means : (offset length : ℕ) (row given : Row) (test : Bool)
    → nat_le (offset + length) row.size ≡ test → ranged offset length row ≡ Ok given
    → (row ≡ given) × (nat_le (offset + length) given.size ≡ true)
ranged_means offset length row given true told is =
    let same : row ≡ given = let here = rw told at is in cc in
    (same, sym (ap (λ r. nat_le (offset + length) r.size) same) ∙ told)
ranged_means offset length row given false told is =
    absurd (let no = rw told at is in cc)

-- the partition that a write changes is open for it
pub write_open : (rows : List Row) (label : List ℕ) (offset length : ℕ) (row : Row)
    → write_checked rows label offset length ≡ Ok row → IsOpenFor rows label offset length row
unfolding write_checked
write_open rows label offset length row is = by (open_row label rows) refl is
  where
    by : (found : Result Row PartNo) → open_row label rows ≡ found
        → and_then found (ranged offset length) ≡ Ok row → IsOpenFor rows label offset length row
    by (Err why) told is = absurd cc
    by (Ok first) told is =
        let both = ranged_means offset length first row _ refl is in
        open_for rows label offset length row (told ∙ ap Ok both.0) both.1

-- so is that of an erase, which is made of sectors
pub erase_open : (rows : List Row) (label : List ℕ) (offset len : ℕ) (row : Row)
    → erase_checked rows label offset len ≡ Ok row
    → IsOpenFor rows label offset len row × (offset % 4096 ≡ 0) × (len % 4096 ≡ 0)
unfolding erase_checked
erase_open rows label offset len row is = by (open_row label rows) refl is
  where
    tested : (first : Row) (odd : Bool)
        → (not (offset % 4096 == 0) || not (len % 4096 == 0)) ≡ odd
        → (if odd then Err Unaligned else ranged offset len first) ≡ Ok row
        → (ranged offset len first ≡ Ok row) × (offset % 4096 ≡ 0) × (len % 4096 ≡ 0)
    tested first true told is = absurd cc
    tested first false told is = (is, grind (arith, nat_tests), grind (arith, nat_tests))

    by : (found : Result Row PartNo) → open_row label rows ≡ found
        → and_then found (λ row.
        if not (offset % 4096 == 0) || not (len % 4096 == 0) then Err Unaligned
        else ranged offset len row) ≡ Ok row
        → IsOpenFor rows label offset len row × (offset % 4096 ≡ 0) × (len % 4096 ≡ 0)
    by (Err why) told is = absurd cc
    by (Ok first) told is =
        let test = tested first _ refl is in
        let both = ranged_means offset len first row _ refl test.0 in
        (open_for rows label offset len row (told ∙ ap Ok both.0) both.1, test.1, test.2)

-- what lies in a range lies in a wider one
wider : (from to low high : ℕ) (steps : List Step) → low ≤ from → to ≤ high
    → AllByRecursion (LiesIn from to) steps → AllByRecursion (LiesIn low high) steps
wider from to low high [] below above all = tt
wider from to low high (step ∷ steps) below above all =
    ((omega (arith, all.0.0), omega (arith, all.0.1)), wider from to low high steps below above all.1)

-- the steps of a write stay in their partition
pub write_inside : (rows : List Row) (label : List ℕ) (offset : ℕ) (bytes : List ℕ) (row : Row)
    → write_checked rows label offset (length bytes) ≡ Ok row
    → AllByRecursion (LiesInPart row) (part_write_steps rows label offset bytes)
unfolding part_write_steps
write_inside rows label offset bytes row is =
    let free = write_open rows label offset (length bytes) row is in
    rw is (wider (row.offset + offset) (row.offset + offset + length bytes) row.offset (row.offset + row.size)
    (write_steps (row.offset + offset) bytes) (omega arith) (omega (arith, free.inside))
    (inside_of_write (row.offset + offset) bytes))

-- those of an erase do, where the table fits a flash
pub erase_inside : (flash : ℕ) (rows : List Row) (label : List ℕ) (offset len : ℕ) (row : Row)
    → FitsFlash flash rows → erase_checked rows label offset len ≡ Ok row
    → AllByRecursion (LiesInPart row) (part_erase_steps rows label offset len)
unfolding part_erase_steps
erase_inside flash rows label offset len row fits is =
    let all = erase_open rows label offset len row is in
    let part = part_of flash rows label offset len row fits all.0 in
    let begins : (row.offset + offset) % 4096 ≡ 0 = omega (arith, part.sector, all.1) in
    rw is (wider (row.offset + offset) (row.offset + offset + len) row.offset (row.offset + row.size)
    (erase_steps (row.offset + offset) len) (omega arith) (omega (arith, all.0.inside))
    (inside_of_erase (row.offset + offset) len begins all.2))
