-- The registers of one core: what saving and restoring them does, and which are its own.
use Rattle.std.specs.Prelude.{Some, None, unwrap_or}
use Rattle.core_state.specs.declared.registers.Regs.{Regs}
use Rattle.core_state.specs.declared.registers.Record.{Record}

-- no space is served and no line is enabled
abbrev pub masked : Regs
masked = record { mask = 0; irq = 0 }

-- both spaces are served and line 0 is enabled, as at reset
abbrev pub reset : Regs
reset = record { mask = 3; irq = 1 }

-- a core before its first start: the registers at reset are saved, and nothing is in force
abbrev pub starting : Record
starting = record { regs = masked; saved = Some reset }

-- the registers in force are kept, and then cleared
abbrev pub saved_and_masked : Record → Record
saved_and_masked r = record { regs = masked; saved = Some r.regs }

-- the saved registers, where there are any, are in force again
abbrev pub restored : Record → Record
restored r = record { regs = unwrap_or r.saved r.regs; saved = None }

-- a core's own registers: the saved ones, or where nothing is saved those in force
abbrev pub own_registers : Record → Regs
own_registers r = unwrap_or r.saved r.regs
