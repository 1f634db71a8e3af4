use Rattle.flash_cli.specs.SweepWords.{shown_sweep}
use Rattle.flash_cli.proofs.SweptLemmas.{sweep_made_ends, sweep_no_device, sweep_unmade_ends}
use Rattle.flash_cli.proofs.serve.serve_sweep.Goals as goal

-- the sweep was made
pub returns-in-Ok-clause-ends : goal.returns-in-Ok-clause-ends
returns-in-Ok-clause-ends g c =
    sweep_made_ends (g.S.Store.files c.args.store.now) (shown_sweep c.args.sweep.now)
    c.in-Ok.swept _ _ _ _ c.in-Ok.ensures.exact c.in-Ok.ensures.same c.tell_sweep.ensures.told

pub returns-in-Ok-clause-no_device : goal.returns-in-Ok-clause-no_device
returns-in-Ok-clause-no_device g c =
    sweep_no_device (g.S.Store.files c.args.store.now) (shown_sweep c.args.sweep.now) _ _ _ _
    (sweep_made_ends (g.S.Store.files c.args.store.now) (shown_sweep c.args.sweep.now)
    c.in-Ok.swept _ _ _ _ c.in-Ok.ensures.exact c.in-Ok.ensures.same c.tell_sweep.ensures.told)

-- or not
pub returns-in-Err-clause-ends : goal.returns-in-Err-clause-ends
returns-in-Err-clause-ends g c =
    sweep_unmade_ends (g.S.Store.files c.args.store.now) (shown_sweep c.args.sweep.now) _ _
    c.in-Err.error _ _ _ _ c.in-Err.ensures.exact c.in-Err.ensures.same c.refuse_call.ensures.ends

pub returns-in-Err-clause-no_device : goal.returns-in-Err-clause-no_device
returns-in-Err-clause-no_device g c =
    sweep_no_device (g.S.Store.files c.args.store.now) (shown_sweep c.args.sweep.now) _ _ _ _
    (sweep_unmade_ends (g.S.Store.files c.args.store.now) (shown_sweep c.args.sweep.now) _ _
    c.in-Err.error _ _ _ _ c.in-Err.ensures.exact c.in-Err.ensures.same c.refuse_call.ensures.ends)
