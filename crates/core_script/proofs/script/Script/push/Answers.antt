use Rattle.std.proofs.Common.{rules, ◌≡◌, ◌<◌, [], ◌∷◌, ◌++◌, length}
use Rattle.core_script.proofs.ActionLemmas.{within-snoc}
use Rattle.core_script.proofs.script.Script.push.Goals as goal

-- one action more
pub invariant_of-self-2 : goal.invariant_of-self-2
invariant_of-self-2 c =
    let appended : c.push.new.self.items ≡ c.self.inside.actions.items ++ c.args.action ∷ [] = search rules in
    let few : length c.self.inside.actions.items < 4096 = search rules in
    within-snoc c.self.inside.actions.items c.push.new.self.items c.args.action c.self.inside.sectors c.sectors.result
    c.self.invariant c.requires appended c.sectors.ensures.exact few c.if-sectors-gt65536.false
