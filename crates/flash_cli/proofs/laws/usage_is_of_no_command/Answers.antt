use Rattle.flash_cli.proofs.CallLaws.{usage_only, usage_always}
use Rattle.flash_cli.proofs.laws.usage_is_of_no_command.Goals as goal

-- a command never comes to usage, and no command comes to nothing else
pub returns : goal.returns
returns c = record { only = usage_only; always = usage_always }
