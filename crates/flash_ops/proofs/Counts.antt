-- Quiet periods, counted one by one.
use Rattle.std.proofs.Common.{◌≡◌, ℕ, suc, ◌+◌, ◌∙◌, ap, refl, arith, Result, Ok, Err}
use Rattle.nor_device.specs.declared.nor.NorFault.{NorFault}
use Rattle.flash_ops.specs.declared.refusal.StepNo.{StepNo}
use Rattle.flash_ops.specs.Told.{count_behind, CountsPeriods, fault_of}

-- so many periods are left of a whole, and those before them were counted
pub record Counting (whole left before now : ℕ) : Type 0 where
  pub many : ℕ
  pub whole_is : many + left ≡ whole
  pub is : now ≡ count_behind before many

pub counting_none : (whole left before : ℕ) → left ≡ whole → Counting whole left before before
counting_none whole left before is = record { many = 0; whole_is = omega arith; is = refl }

-- one more
pub counting_one : (whole left rest before now later : ℕ) → left ≡ suc rest
    → Counting whole left before now → later ≡ count_behind now 1 → Counting whole rest before later
counting_one whole left rest before now later more c is =
    let sum = c.whole_is in
    record {
      many = suc c.many;
      whole_is = omega arith;
      is = is ∙ ap (λ (n : ℕ). count_behind n 1) c.is;
    }

pub counting_stops : (whole left before now : ℕ) (r : Result (Unit {0}) StepNo) (why : NorFault)
    → fault_of r ≡ Err why → Counting whole left before now → CountsPeriods whole r before now
counting_stops whole left before now (Ok u) why is c =
    let other : Ok tt ≡ Err why = is in absurd cc
counting_stops whole left before now (Err cause) why is c =
    let sum = c.whole_is in
    record { many = c.many; within = omega arith; is = c.is }

pub counting_all : (whole left before now : ℕ) → left ≡ 0 → Counting whole left before now
    → now ≡ count_behind before whole
counting_all whole left before now none c =
    let sum = c.whole_is in
    let all : c.many ≡ whole = omega arith in
    c.is ∙ ap (count_behind before) all
