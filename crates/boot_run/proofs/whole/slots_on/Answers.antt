use Rattle.std.proofs.Common.{◌≡◌, ◌∙◌, false, get_or, arith, rules, subst, sym}
use Rattle.std.proofs.Math.ListN.{set}
use Rattle.std.proofs.lemmas.List.{length-set}
use Rattle.partition_table.specs.declared.app.App.TheVariants.{Ota}
use Rattle.boot_run.proofs.WholeLemmas.{TellsOf, slots_more, found_tells}
use Rattle.boot_run.proofs.whole.slots_on.Goals as goal

-- one slot more is told
pub loop-slot-preserved : goal.loop-slot-preserved
loop-slot-preserved g c =
    let n = g.D.Nor in
    let b = c.loop-slot.invariant in
    let layout = c.args.layout.now in
    let told = n.bytes c.args.device.now in
    let here = subst (λ v. TellsOf layout told v (Ota c.loop-slot.slot)) (sym c.is_some.ensures)
    (found_tells layout told (n.bytes c.loop-slot.device) (Ota c.loop-slot.slot)
    c.in_ok-app_on.field-0
    b.same.bytes_same c.in_ok-app_on.ensures.found) in
    let same : c.from.result ≡ c.loop-slot.slot = search rules in
    record {
      on = search rules;
      long = length-set c.loop-slot.whole c.from.result c.is_some.result ∙ b.long;
      told = λ k less. subst (λ i. TellsOf layout told
          (get_or (set c.loop-slot.whole i c.is_some.result) k false) (Ota k))
          (sym same) (slots_more layout told c.loop-slot.whole c.loop-slot.slot k c.is_some.result
          (omega arith) less b.told here);
      same = search rules;
      setting = search rules;
      faults_same = search rules;
    }
