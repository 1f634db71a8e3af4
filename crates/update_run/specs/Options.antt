-- How an update is made: its options, and its device.
use Rattle.std.specs.Prelude.{◌≡◌, ◌≤◌, ℕ, List}
use Rattle.nor_device.specs.Ram.{Ram}
use Rattle.crash_images.specs.Cut.{CutDevice, IsAhead, NotBoth}
use Rattle.power_cut.specs.Device.{IsReady, faults_of}
use Rattle.update_run.specs.declared.options.Options.{Options}

-- the driver is a core, at most one step is to end badly, and steps are numbered from 1
pub record AreOptions (options : Options) : Type 0 where
  pub driver : options.driver ≤ 1
  pub one : NotBoth options.cut options.fail
  pub cut : IsAhead options.cut 0
  pub fail : IsAhead options.fail 0

-- a device with this flash that made no step and counted no fault yet, of which each step is asked
-- twice before it ends, with the chosen step and the tear number
pub record IsChosenDevice (options : Options) (flash : List ℕ) (dev : CutDevice Ram) : Type 0 where
  pub ready : IsReady dev
  pub steps : dev.steps ≡ 0
  pub faults : faults_of dev ≡ 0
  pub polls : dev.inner.polls ≡ 2
  pub bytes : dev.inner.bytes ≡ flash
  pub cut : dev.cut ≡ options.cut
  pub tear : dev.tear ≡ options.tear
  pub fail : dev.fail ≡ options.fail
