use Rattle.std.proofs.Common.{sym}
use Rattle.flash_cli.specs.UpdateWords.{shown_update}
use Rattle.flash_cli.proofs.ServedLemmas.{asked_so, update_told, update_unmade}
use Rattle.flash_cli.proofs.serve.serve_update.Goals as goal

-- the update was made
pub returns-in-Ok-clause-ends : goal.returns-in-Ok-clause-ends
returns-in-Ok-clause-ends g c =
    update_told (shown_update c.args.update.now) (g.S.Store.files c.args.store.now) c.in-Ok.trial
    _ _ _ _ _ _ c.end_update.ensures.trial c.in-Ok.ensures.exact c.in-Ok.ensures.same
    c.end_update.ensures.ends

-- or not
pub returns-in-Err-clause-ends : goal.returns-in-Err-clause-ends
returns-in-Err-clause-ends g c =
    update_unmade (shown_update c.args.update.now) (g.S.Store.files c.args.store.now) _ _
    c.in-Err.error _ _ _ _ _ c.refuse_call.ensures.trial c.in-Err.ensures.exact
    c.in-Err.ensures.same c.refuse_call.ensures.ends

-- the pace was told of it
pub returns-in-Ok-clause-told : goal.returns-in-Ok-clause-told
returns-in-Ok-clause-told g c =
    asked_so _ c.in-Ok.trial _ (sym c.end_update.ensures.trial) c.in-Ok.ensures.told
