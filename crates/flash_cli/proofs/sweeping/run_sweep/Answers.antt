use Rattle.flash_cli.specs.SweepWords.{shown_sweep}
use Rattle.flash_cli.proofs.SweptLemmas.{sweep_came}
use Rattle.flash_cli.proofs.sweeping.run_sweep.Goals as goal

-- all three files were read, of one store
pub returns-clause-exact : goal.returns-clause-exact
returns-clause-exact g c =
    sweep_came (g.S.Store.files c.args.store.now) (shown_sweep c.args.sweep.now) _ _
    c.in_ok-flash.flash.items c.in_ok-image.image.items c.in_ok-text.text.items
    c.sweep_of.result c.in_ok-flash.ensures.ok
    (rw c.needed_file.ensures.same at c.in_ok-image.ensures.ok)
    (rw (c.needed_file-2.ensures.same, c.needed_file.ensures.same) at c.in_ok-text.ensures.ok)
    (rw (c.deref.ensures.value, c.deref-2.ensures.value) at c.sweep_of.ensures.exact)
