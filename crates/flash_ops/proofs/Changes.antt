-- Writes and erases of a partition.
use Rattle.std.proofs.Common.{◌≡◌, ℕ, ◌+◌, ◌*◌, ◌/◌, ◌%◌, ◌≤◌, ◌<◌, ◌^◌, ◌∙◌, ap, subst, sym, refl, arith, inl, inr, List, length, Option, Some, None, Result, Ok, Err, IfOk, IfErr}
use Rattle.std.proofs.lemmas.Bool.{cases_lt}
use Rattle.nor_device.specs.declared.nor.NorFault.{NorFault}
use Rattle.nor_device.specs.declared.nor.NorFault.TheVariants.{Failed, Off}
use Rattle.nor_device.specs.declared.step.Step.{Step}
use Rattle.bus_hub.specs.declared.did.Did.{Did}
use Rattle.partition_table.specs.declared.row.Row.{Row}
use Rattle.partition_table.specs.Rules.{FitsFlash}
use Rattle.flash_steps.proofs.RuleLemmas.{part_of}
use Rattle.flash_steps.proofs.PartLemmas.{erase_open, write_open}
use Rattle.flash_steps.specs.declared.refusal.PartNo.{PartNo}
use Rattle.flash_steps.specs.Steps.{erase_steps, pages_in, write_steps}
use Rattle.flash_steps.proofs.WriteLemmas.{count_of_write}
use Rattle.flash_steps.proofs.EraseLemmas.{count_of_erase}
use Rattle.flash_steps.specs.Parts.{part_erase_steps, part_write_steps, steps_in}
use Rattle.flash_steps.specs.Rules.{erase_checked, write_checked}
use Rattle.bus_hub.specs.declared.did.Base.{Base}
use Rattle.cache_gate.specs.Own.{Own, IsInside, Keeps}
use Rattle.cache_gate.specs.Rounds.{Spends}
use Rattle.cache_gate.proofs.Rooms.{room_kept}
use Rattle.flash_ops.specs.declared.refusal.StepNo.{StepNo}
use Rattle.flash_ops.specs.declared.refusal.StepNo.TheVariants.{Device, Cut}
use Rattle.flash_ops.specs.declared.refusal.OpNo.{OpNo}
use Rattle.flash_ops.specs.declared.refusal.OpNo.TheVariants as ops
use Rattle.flash_ops.specs.Moves.{Move, HasRun, makes}
use Rattle.flash_ops.specs.Asked.{CanChange, CanMakeMoves}
use Rattle.flash_ops.specs.Told.{HasChanged, fault_of, unbarred}
use Rattle.flash_ops.proofs.Runs.{bytes_for_makes, entries_for_makes}
use Rattle.flash_ops.proofs.Can.{room_less, run_spends}
use Rattle.flash_ops.proofs.Pieces.{no_pages, pages_are}

module _ {B : Type 0} (k : ℕ) (steps : List Step) (o p : Own B Did) where
  changed_as : (r : Result (Unit {0}) StepNo) → HasRun k (makes steps) (fault_of r) o p
      → HasChanged k steps (unbarred r) o p
  changed_as (Ok u) run = run
  changed_as (Err Device) run = run
  changed_as (Err Cut) run = run

  -- an answer where no rule was against it
  pub changed_by : (moves : List Move) (r : Result (Unit {0}) StepNo)
      (q : Result (Unit {0}) OpNo) → moves ≡ makes steps → q ≡ unbarred r
      → HasRun k moves (fault_of r) o p → HasChanged k steps q o p
  changed_by moves r q is answered run =
      subst (λ (z : Result (Unit {0}) OpNo). HasChanged k steps z o p) (sym answered)
      (changed_as r (subst (λ (m : List Move). HasRun k m (fault_of r) o p) is run))

-- the steps in a partition that nothing bars
pub write_part_steps : (rows : List Row) (label : List ℕ) (offset : ℕ) (bytes : List ℕ) (row : Row)
    → write_checked rows label offset (length bytes) ≡ Ok row
    → part_write_steps rows label offset bytes ≡ write_steps (row.offset + offset) bytes
unfolding part_write_steps
write_part_steps rows label offset bytes row is =
    ap (λ (r : Result Row PartNo). steps_in r (λ row. write_steps (row.offset + offset) bytes)) is

pub erase_part_steps : (rows : List Row) (label : List ℕ) (offset len : ℕ) (row : Row)
    → erase_checked rows label offset len ≡ Ok row
    → part_erase_steps rows label offset len ≡ erase_steps (row.offset + offset) len
unfolding part_erase_steps
erase_part_steps rows label offset len row is =
    ap (λ (r : Result Row PartNo). steps_in r (λ row. erase_steps (row.offset + offset) len)) is

-- what is said of the row is said of the answer
pub if_row : (r : Result Row PartNo) (row : Row) (P : Row → Type 0) → r ≡ Ok row → P row → IfOk r P
if_row r row P is holds = subst (λ (z : Result Row PartNo). IfOk z P) (sym is) holds

pub of_row : (r : Result Row PartNo) (row : Row) (P : Row → Type 0) → r ≡ Ok row → IfOk r P → P row
of_row r row P is holds = subst (λ (z : Result Row PartNo). IfOk z P) is holds

-- what follows of each row that may be answered
if_ok : (r : Result Row PartNo) (Q : Row → Type 0) → ((row : Row) → r ≡ Ok row → Q row)
    → IfOk r Q
if_ok (Ok row) Q each = each row refl
if_ok (Err why) Q each = tt

-- what a partition of a table that fits the flash asks of a core
module _ {S K P : Type 0} (part : K → ℕ → P) (grants : P → Step → Type 0) (moved : P → Step → P)
  where
    inside_less : (base : Option (Base S K)) (n m : ℕ) → n ≤ m → IsInside base m → IsInside base n
    inside_less None n m less inside = absurd inside
    inside_less (Some b) n m less inside = omega arith

    pub can_write_part : (flash : ℕ) (rows : List Row) (label : List ℕ) (offset : ℕ)
        (bytes : List ℕ) (o : Own (Base S K) Did) → FitsFlash flash rows → flash < 2 ^ 32
        → IsInside o.base flash
        → CanMakeMoves part grants moved (makes (part_write_steps rows label offset bytes)) None o
        → IfOk (write_checked rows label offset (length bytes)) (λ row.
        CanChange part grants moved (row.offset + offset) (length bytes)
        (part_write_steps rows label offset bytes) o)
    can_write_part flash rows label offset bytes o fits small inside can =
        if_ok (write_checked rows label offset (length bytes)) _ (λ row is.
        let p = part_of flash rows label offset (length bytes) row fits
        (write_open rows label offset (length bytes) row is) in
        let less = p.inside in record {
          inside = inside_less o.base (row.offset + offset + length bytes) flash less inside;
          small = omega arith;
          can = can;
        })

    pub can_erase_part : (flash : ℕ) (rows : List Row) (label : List ℕ) (offset len : ℕ)
        (o : Own (Base S K) Did) → FitsFlash flash rows → flash < 2 ^ 32 → IsInside o.base flash
        → CanMakeMoves part grants moved (makes (part_erase_steps rows label offset len)) None o
        → IfOk (erase_checked rows label offset len) (λ row.
        CanChange part grants moved (row.offset + offset) len
        (part_erase_steps rows label offset len) o)
    can_erase_part flash rows label offset len o fits small inside can =
        if_ok (erase_checked rows label offset len) _ (λ row is.
        let p = part_of flash rows label offset len row fits
        (erase_open rows label offset len row is).0 in
        let less = p.inside in record {
          inside = inside_less o.base (row.offset + offset + len) flash less inside;
          small = omega arith;
          can = can;
        })

-- its sectors begin where the flash's do
pub erase_sector : (flash : ℕ) (rows : List Row) (label : List ℕ) (offset len : ℕ)
    → FitsFlash flash rows
    → IfOk (erase_checked rows label offset len) (λ row. row.offset % 4096 ≡ 0)
erase_sector flash rows label offset len fits =
    if_ok (erase_checked rows label offset len) (λ row. row.offset % 4096 ≡ 0) (λ row is.
    (part_of flash rows label offset len row fits
    (erase_open rows label offset len row is).0).sector)

-- how many steps there are
pub few_erases : (rows : List Row) (label : List ℕ) (offset len : ℕ)
    → length (part_erase_steps rows label offset len) ≤ len / 4096
unfolding part_erase_steps
few_erases rows label offset len = by (erase_checked rows label offset len)
  where
    by : (r : Result Row PartNo)
        → length (steps_in r (λ row. erase_steps (row.offset + offset) len)) ≤ len / 4096
    by (Ok row) = let n = count_of_erase (row.offset + offset) len in omega arith
    by (Err why) = omega arith

few_pages : (at len : ℕ) → pages_in at len ≤ (len + 510) / 256
few_pages at len = elim (cases_lt 0 len) [
  | inl some ↦ let n = pages_are at len some in omega arith
  | inr none ↦
      let n : pages_in at len ≡ 0 =
      let zero_is : len ≡ 0 = omega arith in
      ap (pages_in at) zero_is ∙ no_pages at in
      omega arith
]

pub few_writes : (rows : List Row) (label : List ℕ) (offset : ℕ) (bytes : List ℕ)
    → length (part_write_steps rows label offset bytes) ≤ (length bytes + 510) / 256
unfolding part_write_steps
few_writes rows label offset bytes = by (write_checked rows label offset (length bytes))
  where
    by : (r : Result Row PartNo)
        → length (steps_in r (λ row. write_steps (row.offset + offset) bytes))
        ≤ (length bytes + 510) / 256
    by (Ok row) =
        let n = count_of_write (row.offset + offset) bytes in
        let m = few_pages (row.offset + offset) (length bytes) in
        omega arith
    by (Err why) = omega arith

module _ {S K : Type 0} (k : ℕ) (steps : List Step) (o p : Own (Base S K) Did) (n : ℕ)
    (few : 2 * length steps ≤ n) where
  moves_spend : (r : Result (Unit {0}) NorFault) → HasRun k (makes steps) r o p → Spends n 0 o p
  moves_spend r run =
      let e = entries_for_makes steps in
      let f = bytes_for_makes steps in
      run_spends k (makes steps) r o p n 0 run (omega arith) (omega arith)

  changed_spends : (r : Result (Unit {0}) OpNo) → HasChanged k steps r o p → Spends n 0 o p
  changed_spends (Ok u) run = moves_spend (Ok tt) run
  changed_spends (Err (ops.Barred why)) run = absurd run
  changed_spends (Err ops.Device) run = moves_spend (Err Failed) run
  changed_spends (Err ops.Cut) run = moves_spend (Err Off) run

  kept_spends : Keeps o p → Spends n 0 o p
  kept_spends kept = record {
    table = ap (λ (z : Own (Base S K) Did). z.table) kept.is;
    core = ap (λ (z : Own (Base S K) Did). z.core) kept.is;
    base = ap (λ (z : Own (Base S K) Did). z.base) kept.is;
    room = λ i j room. room_kept o p i j kept
        (room_less o.base o.core o.share i j (i + n) (j + 0) (omega arith) (omega arith) room);
  }

  -- what a write or an erase of a partition spends of the room, by whatever answer
  pub part_spends : (checked : Result Row PartNo) (r : Result (Unit {0}) OpNo)
      → IfErr checked (λ why. (r ≡ Err (ops.Barred why)) × Keeps o p)
      → IfOk checked (λ _. HasChanged k steps r o p) → Spends n 0 o p
  part_spends (Ok row) r barred ran = changed_spends r ran
  part_spends (Err why) r barred ran = kept_spends barred.1
