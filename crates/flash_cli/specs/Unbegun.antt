-- Why an update or a sweep may not begin, as a refusal of the program; and what one of these files begins
-- with.
use Rattle.std.specs.Prelude.{ℕ, List, Result, Ok, Err}
use Rattle.flash_text.specs.declared.refusal.Refusal.{Refusal}
use Rattle.flash_text.specs.declared.refusal.Refusal.TheVariants.{FlashSize, Table, Script, NotSettled, Conflict, SlotFlags, SeqSpent, TooLarge, SweepLimit}
use Rattle.update_run.specs.declared.refusal.UpdateNo.{UpdateNo}
use Rattle.update_run.specs.declared.refusal.UpdateNo.TheVariants as no
use Rattle.update_run.specs.declared.refusal.OpeningNo.{OpeningNo}
use Rattle.update_run.specs.declared.refusal.OpeningNo.TheVariants as none
use Rattle.update_run.specs.Opening.{Opening, opening_of}
use Rattle.update_run.specs.Sweeping.{sweep_opening_of}
use Rattle.flash_cli.specs.declared.error.CommandError.{CommandError}
use Rattle.flash_cli.specs.declared.error.CommandError.TheVariants.{Refused, Failed}
use Rattle.flash_cli.specs.declared.error.Failure.TheVariants.{Memory}

-- the refusal of an update or of a sweep that may not begin
abbrev pub refusal_of : UpdateNo → Refusal
refusal_of (no.Script line reason) = Script line reason
refusal_of (no.FlashSize size) = FlashSize size
refusal_of (no.Table reason) = Table reason
refusal_of (no.NotSettled reason) = NotSettled reason
refusal_of (no.Conflict slot) = Conflict slot
refusal_of (no.SlotFlags slot flags) = SlotFlags slot flags
refusal_of (no.SeqSpent seq) = SeqSpent seq
refusal_of (no.TooLarge need limit) = TooLarge need limit
refusal_of (no.SweepLimit long limit) = SweepLimit long limit

-- the error of a command that may not begin, or for which memory ran out
abbrev pub error_of : OpeningNo → CommandError
error_of (none.Refused reason) = Refused (refusal_of reason)
error_of none.Memory = Failed Memory

-- a value, or the refusal
abbrev pub or_refusal : {A : Type 0} → Result A UpdateNo → Result A Refusal
or_refusal (Ok value) = Ok value
or_refusal (Err reason) = Err (refusal_of reason)

-- what an update of a flash by an image and the text of a script begins with, or the refusal
abbrev pub opening_or_refusal : List ℕ → List ℕ → List ℕ → Result Opening Refusal
opening_or_refusal flash image text = or_refusal (opening_of flash image text)

-- what a sweep begins with, or the refusal
abbrev pub sweep_opening_or_refusal : List ℕ → List ℕ → List ℕ → Result Opening Refusal
sweep_opening_or_refusal flash image text = or_refusal (sweep_opening_of flash image text)
