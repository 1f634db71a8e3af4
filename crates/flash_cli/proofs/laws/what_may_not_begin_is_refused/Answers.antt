use Rattle.flash_cli.proofs.UnbegunLaws.{refused_sweep, refused_update}
use Rattle.flash_cli.proofs.laws.what_may_not_begin_is_refused.Goals as goal

pub returns : goal.returns
returns c = record { update = refused_update; sweep = refused_sweep }
