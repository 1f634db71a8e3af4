-- How a call of the program ends.
use Rattle.std.specs.Prelude.{ℕ}
use Rattle.flash_cli.specs.declared.status.Status.{Status}
use Rattle.flash_cli.specs.declared.status.Status.TheVariants.{Done, Usage, Refused, StoreFault, DeviceFault, PowerCut, Memory, SinkFault}

-- the code with which the program ends
abbrev pub code_of : Status → ℕ
code_of Done = 0
code_of Usage = 1
code_of (Refused why) = 2
code_of StoreFault = 3
code_of (DeviceFault step) = 4
code_of (PowerCut step) = 5
code_of Memory = 6
code_of SinkFault = 7

-- the work came to its end, and its text was pushed
abbrev pub IsWork : Status → Type 0
IsWork Done = Unit {0}
IsWork Usage = Unit {0}
IsWork (Refused why) = Unit {0}
IsWork StoreFault = ⊥
IsWork (DeviceFault step) = ⊥
IsWork (PowerCut step) = ⊥
IsWork Memory = ⊥
IsWork SinkFault = ⊥

-- the work came to its end, or the program is out of memory
abbrev pub IsWorkOrMemory : Status → Type 0
IsWorkOrMemory Memory = Unit {0}
IsWorkOrMemory status = IsWork status

-- the words were found to be no command, or that could not be told
abbrev pub IsUsageOrUntold : Status → Type 0
IsUsageOrUntold Usage = Unit {0}
IsUsageOrUntold SinkFault = Unit {0}
IsUsageOrUntold Memory = Unit {0}
IsUsageOrUntold _ = ⊥

-- the status is that of a device, which no command without cores has
abbrev pub IsDevices : Status → Type 0
IsDevices (DeviceFault step) = Unit {0}
IsDevices (PowerCut step) = Unit {0}
IsDevices _ = ⊥
