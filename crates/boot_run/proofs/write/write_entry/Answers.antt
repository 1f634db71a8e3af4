use Rattle.std.proofs.Common.{◌≡◌, ◌+◌, ◌*◌, ◌/◌, List, [], ◌∷◌, OnOk, IfErr, subst}
use Rattle.nor_device.specs.declared.step.Step.{Step}
use Rattle.nor_device.specs.declared.step.Step.TheVariants.{Erase, Program}
use Rattle.boot_run.specs.Rewriting.{rewrite}
use Rattle.boot_run.specs.Made.{AreMade, AreMissed}
use Rattle.boot_run.proofs.MadeLemmas.{made_one, on_made_one, on_missed_one, on_made_both, on_missed_back}
use Rattle.boot_run.proofs.write.write_entry.Goals as goal

-- both steps were made
pub returns-clause-made : goal.returns-clause-made
returns-clause-made g c =
    let n = g.D.Nor in
    let erase = Erase (c.args.otadata / 4096 + c.from-sector.result) in
    let program = Program (c.args.otadata + 4096 * c.from-sector.result) c.entry_page.result in
    let same : erase ∷ program ∷ [] ≡ rewrite c.args.otadata c.args.write.now =
    λ i. Erase (c.args.otadata / 4096 + c.from-sector.ensures i)
    ∷ Program (c.args.otadata + 4096 * c.from-sector.ensures i) (c.entry_page.ensures.exact i) ∷ []
    in
    let one = c.in_ok-make_step.ensures in
    let two = c.make_step-2.ensures in
    let set = n.setting c.args.device.now in
    let first = made_one n.may_end n.may_tear n.may_refuse n.must_refuse set erase
    (n.steps c.args.device.now) (n.steps c.make_step.new.device) (n.bytes c.args.device.now)
    (n.bytes c.make_step.new.device) one.stopped one.done one.counted one.made in
    let last = on_made_one n.may_end n.may_tear n.may_refuse n.must_refuse
    (n.setting c.make_step.new.device) program (n.steps c.make_step.new.device)
    (n.steps c.make_step-2.new.device) (n.bytes c.make_step.new.device)
    (n.bytes c.make_step-2.new.device) c.make_step-2.result two.stopped two.done two.counted
    two.made in
    subst (λ (steps : List Step). OnOk c.make_step-2.result
    (AreMade n.may_end n.may_tear n.may_refuse n.must_refuse set steps
    (n.steps c.args.device.now) (n.steps c.make_step-2.new.device) (n.bytes c.args.device.now)
    (n.bytes c.make_step-2.new.device))) same
    (on_made_both n.may_end n.may_tear n.may_refuse n.must_refuse set
    (n.setting c.make_step.new.device) (erase ∷ []) (program ∷ []) _ _ _ _ _ _
    c.make_step-2.result c.make_step.ensures.setting.setting_same first last)

-- the program was missed
pub returns-clause-missed : goal.returns-clause-missed
returns-clause-missed g c =
    let n = g.D.Nor in
    let erase = Erase (c.args.otadata / 4096 + c.from-sector.result) in
    let program = Program (c.args.otadata + 4096 * c.from-sector.result) c.entry_page.result in
    let same : erase ∷ program ∷ [] ≡ rewrite c.args.otadata c.args.write.now =
    λ i. Erase (c.args.otadata / 4096 + c.from-sector.ensures i)
    ∷ Program (c.args.otadata + 4096 * c.from-sector.ensures i) (c.entry_page.ensures.exact i) ∷ []
    in
    let one = c.in_ok-make_step.ensures in
    let two = c.make_step-2.ensures in
    let set = n.setting c.args.device.now in
    let first = made_one n.may_end n.may_tear n.may_refuse n.must_refuse set erase
    (n.steps c.args.device.now) (n.steps c.make_step.new.device) (n.bytes c.args.device.now)
    (n.bytes c.make_step.new.device) one.stopped one.done one.counted one.made in
    let last = on_missed_one n.may_end n.may_tear n.may_refuse n.must_refuse
    (n.setting c.make_step.new.device) program (n.steps c.make_step.new.device)
    (n.steps c.make_step-2.new.device) (n.bytes c.make_step.new.device)
    (n.bytes c.make_step-2.new.device) c.make_step-2.result two.missed in
    subst (λ (steps : List Step). IfErr c.make_step-2.result
    (AreMissed n.may_end n.may_tear n.may_refuse n.must_refuse set steps
    (n.steps c.args.device.now) (n.steps c.make_step-2.new.device) (n.bytes c.args.device.now)
    (n.bytes c.make_step-2.new.device))) same
    (on_missed_back n.may_end n.may_tear n.may_refuse n.must_refuse set
    (n.setting c.make_step.new.device) (erase ∷ []) (program ∷ []) _ _ _ _ _ _
    c.make_step-2.result c.make_step.ensures.setting.setting_same first last)
