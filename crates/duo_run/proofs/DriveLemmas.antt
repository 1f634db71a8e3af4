-- The job of the driver from rest to rest.
use Rattle.std.proofs.Common.{ℕ, Option, Result, sym, subst}
use Rattle.partition_table.specs.Layout.{Places}
use Rattle.bus_hub.specs.declared.did.Base.{Base}
use Rattle.bus_hub.specs.declared.did.Did.{Did}
use Rattle.cache_gate.specs.Own.{Keeps, Own}
use Rattle.flash_ops.specs.declared.refusal.StepNo.{StepNo}
use Rattle.flash_ops.proofs.Runs.{run_after, run_before}
use Rattle.ota_session.specs.Course.{Course, Purpose}
use Rattle.power_cut.specs.declared.legs.LegEnd.{LegEnd}
use Rattle.duo_run.specs.Driving.{ended_as}
use Rattle.duo_run.specs.Jobs.{CanDrive, HasDriven, moves_for}

module _ {S : Type 0} (layout : Places) (purpose : Purpose) (probe : Option ℕ) where
  -- a core that only saw more of the run
  pub drive_kept : (o p : Own (Base S Course) Did) → Keeps o p → CanDrive layout purpose probe o
      → CanDrive layout purpose probe p
  drive_kept o p keeps can =
      subst (λ (z : Own (Base S Course) Did). CanDrive layout purpose probe z) (sym keeps.is)
      (record {
        drives = record {
          base = can.drives.base;
          base_is = can.drives.base_is;
          small = can.drives.small;
          two = can.drives.two;
          rows = can.drives.rows;
          duty = can.drives.duty;
          made_for = can.drives.made_for;
          made_is = can.drives.made_is;
        };
        room = can.room;
        look = can.look;
      })

  -- the job between walks that add nothing
  pub driven_kept : (r : Result LegEnd StepNo) (o a b c : Own (Base S Course) Did) → Keeps o a
      → HasDriven layout purpose probe r a b → Keeps b c → HasDriven layout purpose probe r o c
  driven_kept r o a b c first x last = record {
    ran = run_after 0 (moves_for layout purpose probe) (ended_as r) o a c first
        (run_before 0 (moves_for layout purpose probe) (ended_as r) a b c x.ran last);
    end = x.end;
  }
