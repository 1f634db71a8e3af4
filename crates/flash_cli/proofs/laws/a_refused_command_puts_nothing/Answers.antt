use Rattle.flash_cli.proofs.CallLaws.{refused_nothing}
use Rattle.flash_cli.proofs.laws.a_refused_command_puts_nothing.Goals as goal

-- the outcome of a refusal puts nothing
pub returns : goal.returns
returns c = record { none = refused_nothing }
