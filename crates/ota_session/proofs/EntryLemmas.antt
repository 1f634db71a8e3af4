-- The rewrite of an entry on a core: what it asks, and what it leaves.
use Rattle.std.proofs.Common.{◌≡◌, ℕ, ◌+◌, ◌*◌, ◌%◌, List, ◌++◌, length, Option, Result, Ok, Err, sym, ap, ◌∙◌, subst}
use Rattle.nor_device.specs.declared.step.Step.{Step}
use Rattle.nor_device.specs.declared.nor.NorFault.TheVariants.{Failed, Off}
use Rattle.otadata.specs.Entry.{entry_bytes}
use Rattle.rollback.specs.declared.rewrite.Rewrite.{Rewrite}
use Rattle.boot_run.specs.Rewriting.{rewrite}
use Rattle.bus_hub.specs.declared.did.Base.{Base}
use Rattle.bus_hub.specs.declared.did.Did.{Did}
use Rattle.cache_gate.specs.Own.{Own}
use Rattle.flash_ops.specs.Asked.{CanLook, CanMakeMoves, HasRoomFor, MayMakeAll}
use Rattle.flash_ops.specs.declared.refusal.StepNo.{StepNo}
use Rattle.flash_ops.specs.declared.refusal.StepNo.TheVariants as steps
use Rattle.flash_ops.specs.Told.{fault_of}
use Rattle.flash_ops.specs.Moves.{HasRun, Move, erase_moves, write_moves}
use Rattle.flash_ops.proofs.Can.{can_first, can_then}
use Rattle.flash_ops.proofs.Runs.{run_stops, run_then}
use Rattle.ota_session.specs.Course.{Course, Grants, part_after, part_of}
use Rattle.ota_session.specs.Stages.{entry_moves}
use Rattle.ota_session.proofs.MoveLemmas.{steps_of_entry}
use Rattle.ota_session.proofs.StageLemmas.{ran_ok}

module _ {S : Type 0} (probe : Option ℕ) (otadata : ℕ) (write : Rewrite)
    (o : Own (Base S Course) Did) (at : ℕ) (bytes : List ℕ)
    (at_is : at ≡ otadata + 4096 * write.sector) (bytes_are : bytes ≡ entry_bytes write.entry)
  where
    abbrev erasing : List Move
    erasing = erase_moves probe at 4096

    abbrev programming : List Move
    programming = write_moves probe at bytes

    entry_as : entry_moves probe otadata write ≡ erasing ++ programming
    unfolding entry_moves
    entry_as = λ i. erase_moves probe (sym at_is i) 4096
        ++ write_moves probe (sym at_is i) (sym bytes_are i)

    -- the erase and the program are the steps of a rewrite
    can_rewrite : otadata % 4096 ≡ 0 → length bytes ≡ 32
        → MayMakeAll part_of Grants part_after o.base o.core o.share (rewrite otadata write)
        → HasRoomFor o.base o.core o.share (entry_moves probe otadata write)
        → CanLook o.base o.regs probe
        → CanMakeMoves part_of Grants part_after (erasing ++ programming) probe o
    can_rewrite aligned long may room look =
        let size : length (entry_bytes write.entry) ≡ 32 = ap length (sym bytes_are) ∙ long in
        subst (λ (ms : List Move). CanMakeMoves part_of Grants part_after ms probe o) entry_as (record {
          may = subst (λ (l : List Step).
              MayMakeAll part_of Grants part_after o.base o.core o.share l)
              (sym (steps_of_entry probe otadata write aligned size)) may;
          room = room;
          look = look;
        })

    -- so what the erase asks holds
    pub can_erase : otadata % 4096 ≡ 0 → length bytes ≡ 32
        → MayMakeAll part_of Grants part_after o.base o.core o.share (rewrite otadata write)
        → HasRoomFor o.base o.core o.share (entry_moves probe otadata write)
        → CanLook o.base o.regs probe → CanMakeMoves part_of Grants part_after erasing probe o
    can_erase aligned long may room look =
        can_first part_of Grants part_after erasing programming probe o
        (can_rewrite aligned long may room look)

    -- and what the program asks behind it
    pub can_program : (p : Own (Base S Course) Did) (looked : Option ℕ)
        (r : Result (Unit {0}) StepNo) (u : Unit {0}) → otadata % 4096 ≡ 0 → length bytes ≡ 32
        → MayMakeAll part_of Grants part_after o.base o.core o.share (rewrite otadata write)
        → HasRoomFor o.base o.core o.share (entry_moves probe otadata write)
        → CanLook o.base o.regs probe → looked ≡ probe → r ≡ Ok u
        → HasRun 0 erasing (fault_of r) o p
        → CanMakeMoves part_of Grants part_after (write_moves looked at bytes) looked p
    can_program p looked r u aligned long may room look same fine run =
        subst (λ (l : Option ℕ). CanMakeMoves part_of Grants part_after (write_moves l at bytes) l p)
        (sym same)
        (can_then part_of Grants part_after 0 erasing programming probe o p
        (can_rewrite aligned long may room look) (ran_ok 0 erasing r u o p fine run))

    -- the sector was not erased
    pub not_erased : (p : Own (Base S Course) Did) (r : Result (Unit {0}) StepNo) (why : StepNo)
        → r ≡ Err why → HasRun 0 erasing (fault_of r) o p
        → HasRun 0 (entry_moves probe otadata write) (fault_of (Err why)) o p
    not_erased p r why is run =
        subst (λ (ms : List Move). HasRun 0 ms (fault_of (Err why)) o p) (sym entry_as)
        (by why (subst (λ (x : Result (Unit {0}) StepNo). HasRun 0 erasing (fault_of x) o p) is
        run))
      where
        by : (why : StepNo) → HasRun 0 erasing (fault_of (Err why)) o p
            → HasRun 0 (erasing ++ programming) (fault_of (Err why)) o p
        by steps.Device run = run_stops 0 erasing programming Failed o p run
        by steps.Cut run = run_stops 0 erasing programming Off o p run

    -- the entry is rewritten, or the program was refused
    pub has_rewritten : (p q : Own (Base S Course) Did) (looked : Option ℕ)
        (r r' : Result (Unit {0}) StepNo) (u : Unit {0}) → looked ≡ probe → r ≡ Ok u
        → HasRun 0 erasing (fault_of r) o p
        → HasRun 0 (write_moves looked at bytes) (fault_of r') p q
        → HasRun 0 (entry_moves probe otadata write) (fault_of r') o q
    has_rewritten p q looked r r' u same fine first second =
        subst (λ (ms : List Move). HasRun 0 ms (fault_of r') o q) (sym entry_as)
        (run_then 0 erasing programming (fault_of r') o p q (ran_ok 0 erasing r u o p fine first)
        (subst (λ (l : Option ℕ). HasRun 0 (write_moves l at bytes) (fault_of r') p q) same second))
