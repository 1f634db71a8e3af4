use Rattle.flash_cli.specs.UpdateWords.{shown_update}
use Rattle.flash_cli.proofs.PacedLemmas.{paced_came}
use Rattle.flash_cli.proofs.ServedLemmas.{update_came}
use Rattle.flash_cli.proofs.updating.run_update.Goals as goal

-- all three files were read, of one store
pub returns-clause-exact : goal.returns-clause-exact
returns-clause-exact g c =
    update_came (g.S.Store.files c.args.store.now) (shown_update c.args.update.now) _ _
    c.in_ok-flash.flash.items c.in_ok-image.image.items c.in_ok-text.text.items
    c.update_of.result c.in_ok-flash.ensures.ok
    (rw c.needed_file.ensures.same at c.in_ok-image.ensures.ok)
    (rw (c.needed_file-2.ensures.same, c.needed_file.ensures.same) at c.in_ok-text.ensures.ok)
    (rw (c.deref.ensures.value, c.deref-2.ensures.value) at c.update_of.ensures.exact)

-- and the pace was told of what it did
pub returns-clause-told : goal.returns-clause-told
returns-clause-told g c =
    paced_came (g.P.Pace.told c.args.pace.now) (g.S.Store.files c.args.store.now)
    (shown_update c.args.update.now)
    c.in_ok-flash.flash.items c.in_ok-image.image.items c.in_ok-text.text.items
    c.update_of.result c.in_ok-flash.ensures.ok
    (rw c.needed_file.ensures.same at c.in_ok-image.ensures.ok)
    (rw (c.needed_file-2.ensures.same, c.needed_file.ensures.same) at c.in_ok-text.ensures.ok)
    (rw (c.deref.ensures.value, c.deref-2.ensures.value) at c.update_of.ensures.told)
