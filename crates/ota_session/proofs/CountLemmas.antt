-- Quiet periods that were counted: one count behind another, and by the answer of a call.
use Rattle.std.proofs.Common.{◌≡◌, ◌≤◌, ℕ, zero, suc, ◌+◌, ◌/◌, ◌%◌, ◌∙◌, List, length, Result, Ok, Err, ap, refl, subst, arith}
use Rattle.boot_run.specs.declared.aims.Aim.{Aim}
use Rattle.flash_steps.specs.Steps.{erase_steps, pages_in, write_steps}
use Rattle.flash_steps.proofs.EraseLemmas.{count_of_erase}
use Rattle.flash_steps.proofs.WriteLemmas.{count_of_write}
use Rattle.update_steps.specs.Driver.{whole_sectors}
use Rattle.flash_ops.specs.declared.refusal.StepNo.{StepNo}
use Rattle.flash_ops.specs.Moves.{periods_of}
use Rattle.flash_ops.proofs.Pieces.{few_pages}
use Rattle.flash_ops.specs.Told.{CountsPeriods, IsCountedUpTo, count_behind}
use Rattle.ota_session.specs.SessionTold.{begin_periods}

-- one count behind another is a count of both
pub counted_on : (before first later both : ℕ) → both ≡ later + first
    → count_behind (count_behind before first) later ≡ count_behind before both
counted_on before first zero both sum =
    let same : first ≡ both = omega (arith, sum) in ap (count_behind before) same
counted_on before first (suc later) both sum =
    let same : suc (later + first) ≡ both = omega (arith, sum) in
    ap (λ (n : ℕ). count_behind n 1) (counted_on before first later (later + first) refl)
    ∙ ap (count_behind before) same

-- a call that counts behind another one
pub counts_on : (first later whole before between now : ℕ) (r : Result (Unit {0}) StepNo)
    → whole ≡ later + first → between ≡ count_behind before first → CountsPeriods later r between now
    → CountsPeriods whole r before now
counts_on first later whole before between now (Ok u) sum mid is =
    is ∙ ap (λ (n : ℕ). count_behind n later) mid ∙ counted_on before first later whole sum
counts_on first later whole before between now (Err why) sum mid is =
    let within = is.within in
    record {
      many = is.many + first;
      within = omega (arith, sum);
      is = is.is ∙ ap (λ (n : ℕ). count_behind n is.many) mid
          ∙ counted_on before first is.many (is.many + first) refl;
    }

-- at most so many are at most more
pub counted_within : (most more before now : ℕ) → most ≤ more → IsCountedUpTo most before now
    → IsCountedUpTo more before now
counted_within most more before now few is =
    let within = is.within in
    record { many = is.many; within = omega (arith, few); is = is.is }

module _ (n before now : ℕ) (r : Result (Unit {0}) StepNo) (is : CountsPeriods n r before now)
  where
    -- all of them, where the call was not refused
    pub counted_ok : (u : Unit {0}) → r ≡ Ok u → now ≡ count_behind before n
    counted_ok u fine =
        subst (λ (x : Result (Unit {0}) StepNo). CountsPeriods n x before now) fine is

    -- a first part of them, where it was
    pub counted_err : (why : StepNo) → r ≡ Err why → IsCountedUpTo n before now
    counted_err why failed =
        subst (λ (x : Result (Unit {0}) StepNo). CountsPeriods n x before now) failed is

-- the erases that begin a session have one period for each sector
module _ (aim : Aim) (at len before now : ℕ) (r : Result (Unit {0}) StepNo)
    (whole : len ≡ whole_sectors aim.length)
    (is : CountsPeriods (length (erase_steps at len)) r before now)
  where
    begin_counts : CountsPeriods (begin_periods aim) r before now
    begin_counts =
        let count = count_of_erase at len in
        let same : length (erase_steps at len) ≡ begin_periods aim = omega (arith, whole, count) in
        subst (λ (n : ℕ). CountsPeriods n r before now) same is

    pub begun_ok : (u : Unit {0}) → r ≡ Ok u → now ≡ count_behind before (begin_periods aim)
    begun_ok = counted_ok (begin_periods aim) before now r begin_counts

    pub begun_err : (why : StepNo) → r ≡ Err why → IsCountedUpTo (begin_periods aim) before now
    begun_err = counted_err (begin_periods aim) before now r begin_counts

-- 32 bytes where a page begins have one period
pub entry_periods : (at : ℕ) (bytes : List ℕ) → at % 256 ≡ 0 → length bytes ≡ 32
    → periods_of (write_steps at bytes) ≡ 1
unfolding pages_in
entry_periods at bytes aligned long =
    let count : length (write_steps at bytes) ≡ (at % 256 + 32 + 255) / 256 =
    count_of_write at bytes ∙ ap (pages_in at) long in
    omega (arith, count, aligned)

-- so have at most 4096 bytes where a page begins
pub piece_periods : (at : ℕ) (bytes : List ℕ) → at % 256 ≡ 0 → 1 ≤ length bytes
    → length bytes ≤ 4096 → periods_of (write_steps at bytes) ≡ 1
piece_periods at bytes aligned some few =
    let pages = few_pages at (length bytes) some (omega (arith, aligned, few)) in
    let count = count_of_write at bytes in
    omega arith
