-- What a boot answers.
use Rattle.std.specs.Prelude.{◌≡◌, ℕ, List, length, Option, Some, None, IfSome, Result, Ok, Err, IfOk}
use Rattle.nor_device.specs.declared.step.Step.{Step}
use Rattle.nor_device.specs.declared.nor.NorFault.{NorFault}
use Rattle.nor_device.specs.declared.nor.NorFault.TheVariants.{Failed, Off}
use Rattle.otadata.specs.declared.entry.Entry.{Entry}
use Rattle.partition_table.specs.declared.app.App.{App}
use Rattle.partition_table.specs.Layout.{Places}
use Rattle.rollback.specs.Boots.{boots}
use Rattle.boot_run.specs.declared.booted.Booted.{Booted}
use Rattle.boot_run.specs.declared.booted.BootFault.{BootFault}
use Rattle.boot_run.specs.declared.booted.BootFault.TheVariants.{NoApp, Device, Cut}
use Rattle.boot_run.specs.Verified.{Starts}

-- the application that boots, and what is told of its image; or that none boots
abbrev pub IsBoot : Places → (App → Option (List ℕ)) → (ℕ → Entry) → Option Booted → Type 0
IsBoot layout images entries None = boots layout images entries ≡ None
IsBoot layout images entries (Some booted) =
    Starts (boots layout images entries) booted.app booted.info

-- the answer as one of a device: what boots, if anything, or why a call of the device was refused
abbrev pub boot_answer : Result Booted BootFault → Result (Option Booted) NorFault
boot_answer (Ok booted) = Ok (Some booted)
boot_answer (Err NoApp) = Ok None
boot_answer (Err Device) = Err Failed
boot_answer (Err Cut) = Err Off

-- an application that was started tells how many these steps are
abbrev pub CountsSteps : List Step → Result (Option Booted) NorFault → Type 0
CountsSteps steps answer = IfOk answer (λ booted. IfSome booted (λ it. it.steps ≡ length steps))
