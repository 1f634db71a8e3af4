use Rattle.std.proofs.Common.{◌∙◌, Ok}
use Rattle.power_cut.specs.Sweep.{IsFresh}
use Rattle.power_cut.proofs.SweepLemmas.{fresh_made, if_both, beside_kept, update_is}
use Rattle.power_cut.proofs.sweeping.Updates.update.Goals as goal

pub trial-requires-clause-may_write : goal.trial-requires-clause-may_write
trial-requires-clause-may_write g c =
    let all = c.args.self.now in
    let fresh : IsFresh all.flash.now c.args.cut all.tear c.new-dev.result =
    fresh_made all.flash.now c.args.cut all.tear c.of_bytes.result c.new-dev.result
    c.new-dev.ensures.exact (c.of_bytes.ensures.bytes ∙ c.restored-bytes.ensures.exact)
    c.of_bytes.ensures.polls c.of_bytes.ensures.idle c.of_bytes.ensures.steps c.requires.ahead in
    c.requires.runner.may_write c.args.cut c.new-dev.result fresh

pub trial-requires-clause-written : goal.trial-requires-clause-written
trial-requires-clause-written g c = λ ran has.
    let all = c.args.self.now in
    let fresh : IsFresh all.flash.now c.args.cut all.tear c.new-dev.result =
    fresh_made all.flash.now c.args.cut all.tear c.of_bytes.result c.new-dev.result
    c.new-dev.ensures.exact (c.of_bytes.ensures.bytes ∙ c.restored-bytes.ensures.exact)
    c.of_bytes.ensures.polls c.of_bytes.ensures.idle c.of_bytes.ensures.steps c.requires.ahead in
    c.requires.runner.written c.args.cut c.new-dev.result ran fresh has

pub returns-clause-update : goal.returns-clause-update
returns-clause-update g c =
    let all = c.args.self.now in
    let fresh : IsFresh all.flash.now c.args.cut all.tear c.new-dev.result =
    fresh_made all.flash.now c.args.cut all.tear c.of_bytes.result c.new-dev.result
    c.new-dev.ensures.exact (c.of_bytes.ensures.bytes ∙ c.restored-bytes.ensures.exact)
    c.of_bytes.ensures.polls c.of_bytes.ensures.idle c.of_bytes.ensures.steps c.requires.ahead in
    if_both c.trial.result (λ t trial end. update_is
    (λ dev ran. g.U.Runner.has_written all.runner.now dev all.aim all.image (Ok ran))
    (λ dev at write ran. g.U.Runner.has_confirmed all.runner.now dev at write (Ok ran))
    all.layout.now all.flash.now all.tear all.aim.now all.image.now c.args.cut c.new-dev.result t
    fresh trial end) c.trial.ensures.trial c.trial.ensures.end

pub returns-clause-beside : goal.returns-clause-beside
returns-clause-beside g c =
    let all = c.args.self.now in
    let fresh : IsFresh all.flash.now c.args.cut all.tear c.new-dev.result =
    fresh_made all.flash.now c.args.cut all.tear c.of_bytes.result c.new-dev.result
    c.new-dev.ensures.exact (c.of_bytes.ensures.bytes ∙ c.restored-bytes.ensures.exact)
    c.of_bytes.ensures.polls c.of_bytes.ensures.idle c.of_bytes.ensures.steps c.requires.ahead in
    if_both c.trial.result (λ t trial end. beside_kept _ _ _ _ all.layout.now all.flash.now all.tear
    all.aim.now all.image.now _ c.requires.runner c.args.cut t c.requires.opens.placed (update_is
    (λ dev ran. g.U.Runner.has_written all.runner.now dev all.aim all.image (Ok ran))
    (λ dev at write ran. g.U.Runner.has_confirmed all.runner.now dev at write (Ok ran))
    all.layout.now all.flash.now all.tear all.aim.now all.image.now c.args.cut c.new-dev.result t
    fresh trial end)) c.trial.ensures.trial c.trial.ensures.end
