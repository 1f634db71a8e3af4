-- The device whose power goes off, or which fails, in a step of a chosen number.
use Rattle.std.specs.Prelude.{◌≡◌, ◌⊎◌, ℕ, ◌<◌, nat_lt, if◌then◌else◌, Bool, true, false, List, Option, Some, None}
use Rattle.std.proofs.Common.{subst, inl, inr}
use Rattle.std.proofs.Math.Nat.{lt_irrefl}
use Rattle.nor_device.specs.declared.step.Step.{Step}
use Rattle.nor_device.specs.declared.nor.StepEnd.{StepEnd}
use Rattle.nor_device.specs.declared.nor.StepEnd.TheVariants as ends
use Rattle.nor_device.specs.declared.nor.NorFault.{NorFault}
use Rattle.nor_device.specs.declared.nor.NorFault.TheVariants as faults
use Rattle.nor_device.specs.Nor.{end_by}
use Rattle.crash_images.specs.declared.cut.Health.{Health}
use Rattle.crash_images.specs.declared.cut.Health.TheVariants.{Sound, Due, Off, Failed}
use Rattle.crash_images.specs.declared.cut.CutSetting.{CutSetting}
use Rattle.crash_images.specs.TearStep.{MayStart, MayRefuse, TearLeaves}

-- what a contract sees of it: the device inside, the step in which the power goes off, the tear number, the step that
-- fails, the number of steps begun, the faults that it gave by itself, and how it is
pub record CutDevice (D : Type 0) : Type 0 where
  pub inner : D
  pub cut : Option ℕ
  pub tear : ℕ
  pub fail : Option ℕ
  pub steps : ℕ
  pub faults : ℕ
  pub health : Health

-- the device of these parts
abbrev pub cut_device : {D : Type 0} → D → Option ℕ → ℕ → Option ℕ → ℕ → ℕ → Health → CutDevice D
cut_device inner cut tear fail steps faults health = record {
  inner = inner;
  cut = cut;
  tear = tear;
  fail = fail;
  steps = steps;
  faults = faults;
  health = health;
}

-- a chosen number is still to come after this one
abbrev pub IsAhead : Option ℕ → ℕ → Type 0
IsAhead None n = Unit {0}
IsAhead (Some chosen) n = n < chosen

-- at most one of the two is given
abbrev pub NotBoth : Option ℕ → Option ℕ → Type 0
NotBoth cut fail = (cut ≡ None) ⊎ (fail ≡ None)

-- the number of the step that ends badly
abbrev pub IsBad : Option ℕ → Option ℕ → ℕ → Type 0
IsBad cut fail n = (cut ≡ Some n) ⊎ (fail ≡ Some n)

-- a chosen number, as long as it is still to come
abbrev pub unspent_of : Option ℕ → ℕ → Option ℕ
unspent_of None n = None
unspent_of (Some chosen) n = if nat_lt n chosen then Some chosen else None

-- with the power on again, and a number that has come spent
abbrev pub restarted : {D : Type 0} → CutDevice D → CutDevice D
restarted device = record device {
  cut = unspent_of device.cut device.steps;
  fail = unspent_of device.fail device.steps;
  health = Sound;
}

-- the step that runs: the one that is to be torn, or that of the device inside
abbrev pub running_by : Health → Option Step → Option Step
running_by (Due step) inner = Some step
running_by Sound inner = inner
running_by Off inner = inner
running_by Failed inner = inner

-- the polls that are left: a step that is to be torn ends at the first
abbrev pub left_by : Health → ℕ → ℕ
left_by (Due step) inner = 0
left_by Sound inner = inner
left_by Off inner = inner
left_by Failed inner = inner

-- the power is off, here or inside
abbrev pub off_by : Health → Bool → Bool
off_by Off inner = true
off_by Sound inner = inner
off_by (Due step) inner = inner
off_by Failed inner = inner

-- how the device is after a step that was refused so
abbrev pub health_by : NorFault → Health
health_by faults.Off = Off
health_by faults.Failed = Failed

-- how the step of this number ends by the choice: whole before the chosen one, and then no more
abbrev pub EndsBy : Option ℕ → Option ℕ → ℕ → StepEnd → Type 0
EndsBy cut fail n ends.Done = IsAhead cut n × IsAhead fail n
EndsBy cut fail n ends.Cut = cut ≡ Some n
EndsBy cut fail n ends.Failed = fail ≡ Some n

-- a number that is still to come is not this one
not_ahead : (chosen : Option ℕ) (n : ℕ) → IsAhead chosen n → ¬ (chosen ≡ Some n)
not_ahead chosen n ahead is = lt_irrefl n (subst (λ (c : Option ℕ). IsAhead c n) is ahead)

-- the step was made whole
abbrev pub IsDone : StepEnd → Type 0
IsDone ends.Done = Unit {0}
IsDone ends.Failed = ⊥
IsDone ends.Cut = ⊥

-- no refused step was
pub refused_not_done : (why : NorFault) → ¬ IsDone (end_by why)
refused_not_done faults.Off done = done
refused_not_done faults.Failed done = done

module _ {S : Type 0} (may_end : S → ℕ → StepEnd → Type 0)
    (may_refuse : S → ℕ → NorFault → Type 0) where
  -- a step ends by the choice, or badly where the device inside may refuse a call
  abbrev pub CutMayEnd : CutSetting S → ℕ → StepEnd → Type 0
  CutMayEnd set n end =
      EndsBy set.cut set.fail n end
      ⊎ (MayRefuse may_end may_refuse set.inner × ((why : NorFault) × (end ≡ end_by why)))

  -- a refused poll leaves what tearing the step leaves
  abbrev pub CutMayTear : CutSetting S → ℕ → List ℕ → Step → List ℕ → Type 0
  CutMayTear set n = TearLeaves may_end may_refuse set.inner set.tear

  -- a call is refused as the chosen step was that ended badly, or where the device inside may refuse one
  abbrev pub CutMayRefuse : CutSetting S → ℕ → NorFault → Type 0
  CutMayRefuse set n why =
      EndsBy set.cut set.fail n (end_by why) ⊎ MayRefuse may_end may_refuse set.inner

  -- behind a step that was made whole no call need be refused: the chosen one is another
  pub cut_goes_on : (set : CutSetting S) (n : ℕ) → CutMayEnd set n ends.Done
      → ¬ IsBad set.cut set.fail n
  cut_goes_on set n (inl done) (inl is) = not_ahead set.cut n done.0 is
  cut_goes_on set n (inl done) (inr is) = not_ahead set.fail n done.1 is
  cut_goes_on set n (inr refused) bad = refused_not_done refused.1.0 (subst IsDone refused.1.1 tt)

-- a step is due to be torn: it may be started inside, and its number is the chosen one
pub record IsDue {D : Type 0} (running : D → Option Step) (size : D → ℕ) (device : CutDevice D)
    (step : Step) : Type 0 where
  pub start : MayStart running size device.inner step
  pub bad : IsBad device.cut device.fail device.steps

module _ {D S : Type 0} (running : D → Option Step) (size : D → ℕ) (off : D → Bool)
    (setting : D → S) (may_end : S → ℕ → StepEnd → Type 0)
    (may_refuse : S → ℕ → NorFault → Type 0) where
  -- calls are refused so, as the chosen step was, or as the device inside refused a call in it
  abbrev pub IsRefusing : CutDevice D → NorFault → Type 0
  IsRefusing device why =
      EndsBy device.cut device.fail device.steps (end_by why)
      ⊎ MayRefuse may_end may_refuse (setting device.inner)

  -- what holds by how the device is: the chosen number is to come, is that of the step that runs, or has come
  abbrev pub StandsAs : CutDevice D → Health → Type 0
  StandsAs device Sound = IsAhead device.cut device.steps × IsAhead device.fail device.steps
  StandsAs device (Due step) = IsDue running size device step
  StandsAs device Off = (running device.inner ≡ None) × IsRefusing device faults.Off
  StandsAs device Failed =
      (running device.inner ≡ None) × IsRefusing device faults.Failed × (off device.inner ≡ false)

  -- what holds of every such device
  pub record IsCut (device : CutDevice D) : Type 0 where
    pub one : NotBoth device.cut device.fail
    pub stands : StandsAs device device.health
