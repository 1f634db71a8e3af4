-- A trial by other words on its legs.
use Rattle.std.proofs.Common.{ℕ, Bool, true, false, List, Result, Ok, Err}
use Rattle.std.specs.Prelude.{IfOk}
use Rattle.std.specs.Borrow.{Bor}
use Rattle.nor_device.specs.Ram.{Ram}
use Rattle.crash_images.specs.Cut.{CutDevice}
use Rattle.partition_table.specs.Layout.{Places}
use Rattle.rollback.specs.declared.rewrite.Rewrite.{Rewrite}
use Rattle.boot_run.specs.declared.aims.Aim.{Aim}
use Rattle.boot_run.specs.declared.booted.Booted.{Booted}
use Rattle.power_cut.specs.declared.legs.Leg.{Leg}
use Rattle.power_cut.specs.declared.legs.Ran.{Ran}
use Rattle.power_cut.specs.declared.legs.Upto.{Upto}
use Rattle.power_cut.specs.declared.outcome.Trial.{Trial}
use Rattle.power_cut.specs.Kept.{MayConfirm}
use Rattle.power_cut.specs.Whole.{BehindBoot, BehindSession, IsTrial}

module _ (confirms others : CutDevice Ram → Bor Booted → Bor Rewrite → Ran → Type 0)
    (layout : Places) (first : List ℕ) (aim : Aim) (image : List ℕ)
    (so : (dev : CutDevice Ram) (at : Bor Booted) (write : Bor Rewrite) (ran : Ran)
    → MayConfirm layout first dev at.now write.now → confirms dev at write ran
    → others dev at write ran) where
  boot_by : (b : Bool) (legs : List Leg) (dev : CutDevice Ram) (t : Trial)
      → BehindBoot confirms layout first aim image b legs dev t
      → BehindBoot others layout first aim image b legs dev t
  boot_by false legs dev t ends = ends
  boot_by true legs dev t ends = record {
    at = ends.at;
    write = ends.write;
    may = ends.may;
    ran = ends.ran;
    confirmed = so dev ends.at ends.write ends.ran ends.may ends.confirmed;
    moments = ends.moments;
    once = ends.once;
    ends = ends.ends;
  }

  session_by : (b : Bool) (upto : Upto) (session : Leg) (dev : CutDevice Ram) (t : Trial)
      → BehindSession confirms layout first aim image b upto session dev t
      → BehindSession others layout first aim image b upto session dev t
  session_by false upto session dev t ends = ends
  session_by true upto session dev t ends = record {
    new = ends.new;
    leg = ends.leg;
    booted = ends.booted;
    moments = ends.moments;
    behind = boot_by _ _ ends.new t ends.behind;
  }

  pub trial_by : (writes so_written : Ran → Type 0) (upto : Upto) (t : Trial)
      → ((ran : Ran) → writes ran → so_written ran)
      → IsTrial writes confirms layout first aim image upto t
      → IsTrial so_written others layout first aim image upto t
  trial_by writes so_written upto t written trial = record {
    session = trial.session;
    written = written trial.session trial.written;
    journal = trial.journal;
    announced = trial.announced;
    behind = session_by _ upto trial.session.leg trial.session.dev t trial.behind;
  }

-- the same of an answer
pub trial_of : {E : Type 0} (r : Result Trial E) (layout : Places) (first : List ℕ) (aim : Aim)
    (image : List ℕ) (upto : Upto) (writes : Ran → Type 0) (confirms : CutDevice Ram → Bor Booted → Bor Rewrite → Ran → Type 0)
    → IfOk r (IsTrial writes confirms layout first aim image upto) → (so_writes : Ran → Type 0)
    → (so_confirms : CutDevice Ram → Bor Booted → Bor Rewrite → Ran → Type 0)
    → ((ran : Ran) → writes ran → so_writes ran)
    → ((dev : CutDevice Ram) (at : Bor Booted) (write : Bor Rewrite) (ran : Ran)
    → MayConfirm layout first dev at.now write.now → confirms dev at write ran
    → so_confirms dev at write ran)
    → IfOk r (IsTrial so_writes so_confirms layout first aim image upto)
trial_of (Ok t) layout first aim image upto writes confirms is so_writes so_confirms written confirmed =
    trial_by confirms so_confirms layout first aim image confirmed writes so_writes upto t written
    is
trial_of (Err why) layout first aim image upto writes confirms is so_writes so_confirms written confirmed = tt
