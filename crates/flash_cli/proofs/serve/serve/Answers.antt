use Rattle.flash_cli.specs.UpdateWords.{shown_update}
use Rattle.flash_cli.proofs.ServedLemmas.{asked_so}
use Rattle.flash_cli.proofs.SweptLemmas.{no_sweep}
use Rattle.flash_cli.proofs.serve.serve.Goals as goal

-- the words are an update
pub returns-in-Some-clause-update : goal.returns-in-Some-clause-update
returns-in-Some-clause-update g c =
    asked_so _ (shown_update c.in-Some.update) _ c.in-Some.ensures.exact c.serve_update.ensures.ends

-- which is no sweep
pub returns-in-Some-clause-sweep : goal.returns-in-Some-clause-sweep
returns-in-Some-clause-sweep g c =
    no_sweep c.args.words.now (shown_update c.in-Some.update) _ c.in-Some.ensures.exact

-- and the pace was told of it
pub returns-in-Some-clause-told : goal.returns-in-Some-clause-told
returns-in-Some-clause-told g c =
    asked_so _ (shown_update c.in-Some.update) _ c.in-Some.ensures.exact c.serve_update.ensures.told
