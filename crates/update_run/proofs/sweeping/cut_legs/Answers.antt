use Rattle.std.proofs.Common.{ap, rules, subst, sym}
use Rattle.crash_images.specs.Agrees.{Agrees}
use Rattle.flash_steps.specs.Parts.{open_addresses}
use Rattle.power_cut.specs.Sweep.{IsUntouched}
use Rattle.duo_run.proofs.OpeningLemmas.{duo_affirms, duo_keeps}
use Rattle.update_run.proofs.RunLemmas.{may_affirm}
use Rattle.update_run.proofs.SweepLemmas.{affirm_beside, install_beside, may_install, refused_with, sweep_with}
use Rattle.update_run.proofs.sweeping.cut_legs.Goals as goal

-- the legs of both cores may be run on each device that a sweep makes, and keep what it asks
pub sweep-requires-clause-runner : goal.sweep-requires-clause-runner
sweep-requires-clause-runner g c =
    let rows = c.args.duo.now.table.now in
    let script = c.args.duo.now.script.now in
    let driver = c.args.duo.now.driver in
    let layout = c.args.layout.now in
    let flash = c.args.flash.now in
    let has = c.requires.table in
    record {
      may_write = λ cut dev fresh. (
        c.requires.core,
        (
          (
            layout,
            has.layout_is,
            may_install rows layout flash c.args.aim.now c.args.image.now c.args.tear cut dev has
                c.requires.opens fresh,
          ),
          search rules,
        ),
      );
      written = λ cut dev ran fresh post. duo_keeps rows script driver layout flash has
          c.args.aim.now c.args.image.now dev ran (post.1 layout has.layout_is);
      written_beside = λ cut dev ran fresh post. subst
          (λ others. Agrees (IsUntouched layout c.args.aim.now others) dev.inner.bytes
          ran.dev.inner.bytes) (sym (ap open_addresses c.rows.ensures.exact))
          (install_beside rows script driver layout flash c.args.aim.now c.args.image.now
          c.args.tear cut dev ran c.requires.opens fresh (post.1 layout has.layout_is));
      may_confirm = λ dev at write may. (
        c.requires.core,
        (
          (
            layout,
            has.layout_is,
            may_affirm rows script driver layout flash has dev at.now write.now may,
          ),
          search rules,
        ),
      );
      confirmed = λ dev at write ran may post. duo_affirms rows script driver layout flash has
          at.now write.now dev ran (post.1 layout has.layout_is);
      confirmed_beside = λ dev at write ran may post. subst
          (λ others. Agrees (IsUntouched layout c.args.aim.now others) dev.inner.bytes
          ran.dev.inner.bytes) (sym (ap open_addresses c.rows.ensures.exact))
          (affirm_beside rows script driver layout flash c.args.aim.now c.args.image.now at.now
          write.now dev ran c.requires.opens may (post.1 layout has.layout_is));
    }

-- the legs are those of both cores
pub returns-clause-sweep : goal.returns-clause-sweep
returns-clause-sweep g c =
    sweep_with c.sweep.result c.args.layout.now c.args.flash.now c.args.tear c.args.aim.now
    c.args.image.now _ _ c.sweep.ensures.sweep _ _
    (λ dev ran post. post.1 c.args.layout.now c.requires.table.layout_is)
    (λ dev at write ran post. post.1 c.args.layout.now c.requires.table.layout_is)

pub returns-clause-refused : goal.returns-clause-refused
returns-clause-refused g c =
    refused_with c.sweep.result c.args.layout.now c.args.flash.now c.args.tear c.args.aim.now
    c.args.image.now _ _ c.sweep.ensures.refused _ _
    (λ dev ran post. post.1 c.args.layout.now c.requires.table.layout_is)
    (λ dev at write ran post. post.1 c.args.layout.now c.requires.table.layout_is)
