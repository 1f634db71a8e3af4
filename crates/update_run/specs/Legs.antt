-- The legs of an update: those of both cores.
use Rattle.std.specs.Borrow.{Bor}
use Rattle.std.specs.Prelude.{ℕ}
use Rattle.nor_device.specs.Ram.{Ram}
use Rattle.crash_images.specs.Cut.{CutDevice}
use Rattle.rollback.specs.declared.rewrite.Rewrite.{Rewrite}
use Rattle.boot_run.specs.declared.aims.Aim.{Aim}
use Rattle.boot_run.specs.declared.booted.Booted.{Booted}
use Rattle.power_cut.specs.declared.legs.Ran.{Ran}
use Rattle.duo_run.specs.Legs.{IsDuoConfirm, IsDuoSession}
use Rattle.update_run.specs.Opening.{Opening}

-- a session of this update, with this driver and aim
abbrev pub Writes : Opening → ℕ → Aim → CutDevice Ram → Ran → Type 0
Writes o driver aim dev ran =
    IsDuoSession o.rows o.script driver o.layout aim o.image dev ran

-- a confirmation of it
abbrev pub Confirms : Opening → ℕ → CutDevice Ram → Bor Booted → Bor Rewrite → Ran → Type 0
Confirms o driver dev at write ran =
    IsDuoConfirm o.rows o.script driver o.layout at.now write.now dev ran
