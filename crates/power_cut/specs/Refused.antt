-- What shows that the device refused a call.
use Rattle.std.specs.Prelude.{ℕ, Result, Ok, Err}
use Rattle.nor_device.specs.declared.nor.NorFault.{NorFault}
use Rattle.nor_device.specs.declared.nor.NorFault.TheVariants.{Failed, Off}
use Rattle.bus_hub.specs.declared.did.Did.{Did}
use Rattle.bus_hub.specs.declared.did.Did.TheVariants.{Opened, Closed, Broken, Fetched, Noted, Denied, Mapping, Unmapping, Missed, Masked, Unfetched}
use Rattle.power_cut.specs.declared.legs.LegEnd.{LegEnd}
use Rattle.power_cut.specs.declared.legs.LegEnd.TheVariants.{Device, Cut}

-- a step was broken off, or a read or the start of a step was refused
abbrev pub IsRefusal : Did → Type 0
IsRefusal (Opened k regs step) = ⊥
IsRefusal (Closed k regs) = ⊥
IsRefusal (Broken k regs why left) = Unit {0}
IsRefusal (Fetched k regs at bytes) = ⊥
IsRefusal (Noted k regs act) = ⊥
IsRefusal (Denied why) = Unit {0}
IsRefusal (Mapping flash_page n space answer) = ⊥
IsRefusal (Unmapping at answer) = ⊥
IsRefusal (Missed at len) = ⊥
IsRefusal (Masked at len) = ⊥
IsRefusal (Unfetched at len why) = Unit {0}

-- the end of a leg by what a read answers behind the step of this number
abbrev pub end_asked : ℕ → LegEnd → Result (Unit {0}) NorFault → LegEnd
end_asked now whole (Ok _) = whole
end_asked now whole (Err Failed) = Device now
end_asked now whole (Err Off) = Cut now
