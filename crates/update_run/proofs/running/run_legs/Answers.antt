use Rattle.std.proofs.Common.{rules}
use Rattle.duo_run.proofs.OpeningLemmas.{duo_affirms, duo_keeps}
use Rattle.power_cut.proofs.TrialLemmas.{trial_of}
use Rattle.update_run.proofs.RunLemmas.{may_affirm}
use Rattle.update_run.proofs.running.run_legs.Goals as goal

-- a session of both cores keeps what a trial asks
pub trial-requires-clause-written : goal.trial-requires-clause-written
trial-requires-clause-written g c = λ ran post.
    duo_keeps c.args.duo.now.table.now c.args.duo.now.script.now c.args.duo.now.driver
    c.args.layout.now c.args.device.inner.bytes c.requires.table c.args.aim.now c.args.image.now
    c.args.device ran (post.1.0 c.args.layout.now c.requires.table.layout_is)

-- a confirmation of both cores may be run on what a boot leaves
pub trial-requires-clause-may_confirm : goal.trial-requires-clause-may_confirm
trial-requires-clause-may_confirm g c = λ dev at write may. (
  c.requires.core,
  (
    (
      c.args.layout.now,
      c.requires.table.layout_is,
      may_affirm c.args.duo.now.table.now c.args.duo.now.script.now c.args.duo.now.driver
          c.args.layout.now c.args.device.inner.bytes c.requires.table dev at.now write.now may,
    ),
    search rules,
  ),
)

-- and keeps what a trial asks
pub trial-requires-clause-confirmed : goal.trial-requires-clause-confirmed
trial-requires-clause-confirmed g c = λ dev at write ran may post.
    duo_affirms c.args.duo.now.table.now c.args.duo.now.script.now c.args.duo.now.driver
    c.args.layout.now c.args.device.inner.bytes c.requires.table at.now write.now dev ran
    (post.1.0 c.args.layout.now c.requires.table.layout_is)

-- the legs are those of both cores
pub returns-clause-trial : goal.returns-clause-trial
returns-clause-trial g c =
    trial_of c.trial.result c.args.layout.now c.args.device.inner.bytes c.args.aim.now
    c.args.image.now c.args.upto _ _
    c.trial.ensures.trial _ _ (λ ran post. post.1.0 c.args.layout.now c.requires.table.layout_is)
    (λ dev at write ran may post. post.1.0 c.args.layout.now c.requires.table.layout_is)

-- and the pace was told of them
pub returns-clause-told : goal.returns-clause-told
returns-clause-told g c =
    trial_of c.trial.result c.args.layout.now c.args.device.inner.bytes c.args.aim.now
    c.args.image.now c.args.upto _ _
    c.trial.ensures.trial _ _ (λ ran post. post.1.1 c.args.layout.now c.requires.table.layout_is)
    (λ dev at write ran may post. post.1.1)
