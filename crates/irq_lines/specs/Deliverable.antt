-- Which lines a core may serve.
use Rattle.std.specs.Prelude.{ℕ, Option, Some, None, bit_and}
use Rattle.core_state.specs.declared.registers.Regs.{Regs}
use Rattle.core_state.specs.declared.registers.Record.{Record}

-- the enabled lines in force where nothing is saved, else the saved ones that are safe
abbrev pub by_saved : Option Regs → ℕ → ℕ → ℕ
by_saved None irq safe = irq
by_saved (Some own) irq safe = bit_and own.irq safe

abbrev pub deliverable : Record → ℕ → ℕ
deliverable rec safe = by_saved rec.saved rec.regs.irq safe
