use Rattle.std.proofs.Common.{◌≡◌, ◌∙◌, subst, sym, ap}
use Rattle.partition_table.specs.declared.app.App.TheVariants.{Factory, Test}
use Rattle.partition_table.specs.Layout.{Places}
use Rattle.boot_run.proofs.WholeLemmas.{TellsOf, both_told, factory_told, found_tells, none_of}
use Rattle.boot_run.proofs.whole.whole_on.Goals as goal

-- with a test application
pub returns-in_ok-app_on-2-clause-told : goal.returns-in_ok-app_on-2-clause-told
returns-in_ok-app_on-2-clause-told g c =
    let n = g.D.Nor in
    let layout = c.args.layout.now in
    let told = n.bytes c.args.device.now in
    let factory = subst (λ v. TellsOf layout told v Factory) (sym c.is_some.ensures)
    (found_tells layout told (n.bytes c.slots_on.new.device) Factory c.in_ok-app_on.field-0
    c.slots_on.ensures.same.bytes_same c.in_ok-app_on.ensures.found) in
    let test = subst (λ v. TellsOf layout told v Test) (sym c.is_some-then-is_some.ensures)
    (found_tells layout told (n.bytes c.app_on.new.device) Test c.in_ok-app_on-2.field-0
    (c.app_on.ensures.same.bytes_same ∙ c.slots_on.ensures.same.bytes_same)
    c.in_ok-app_on-2.ensures.found) in
    both_told layout told c.in_ok-whole.whole c.is_some.result c.is_some-then-is_some.result
    c.in_ok-whole.ensures.long c.slots_on.ensures.most c.in_ok-whole.ensures.told factory test

-- without one
pub returns-else-is_some-clause-told : goal.returns-else-is_some-clause-told
returns-else-is_some-clause-told g c =
    let n = g.D.Nor in
    let layout = c.args.layout.now in
    let told = n.bytes c.args.device.now in
    let factory = subst (λ v. TellsOf layout told v Factory) (sym c.is_some.ensures)
    (found_tells layout told (n.bytes c.slots_on.new.device) Factory c.in_ok-app_on.field-0
    c.slots_on.ensures.same.bytes_same c.in_ok-app_on.ensures.found) in
    let none : layout.test ≡ _ = sym (ap (λ (l : Places). l.test) c.layout.view_is)
    ∙ none_of c.layout.inside.test (sym c.is_some-2.ensures ∙ c.if-is_some.false) in
    factory_told layout told c.in_ok-whole.whole c.is_some.result
    c.in_ok-whole.ensures.long c.slots_on.ensures.most none c.in_ok-whole.ensures.told factory
