-- The steps of a boot.
use Rattle.std.specs.Prelude.{ℕ, List}
use Rattle.nor_device.specs.declared.step.Step.{Step}
use Rattle.partition_table.specs.Layout.{Places}
use Rattle.boot_select.specs.Boots.{entries_in}
use Rattle.rollback.specs.Boot.{boot_writes}
use Rattle.boot_run.specs.Rewriting.{rewrites}

-- the steps that a boot of this flash makes
abbrev pub boot_steps : Places → List ℕ → List Step
boot_steps layout flash = rewrites layout.otadata (boot_writes (entries_in layout flash))
