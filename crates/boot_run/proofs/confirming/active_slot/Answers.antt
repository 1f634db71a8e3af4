use Rattle.std.proofs.Common.{◌∙◌, sym, inl, inr}
use Rattle.boot_run.proofs.VerdictLemmas.{active_named}
use Rattle.boot_run.proofs.confirming.active_slot.Goals as goal

-- an update slot is named
pub unreachable-requires : goal.unreachable-requires
unreachable-requires c =
    let named = active_named c.args.layout.now c.args.e0.now c.args.e1.now c.requires in
    let exact = c.named.ensures.exact in
    elim c.in-Factory.is [
      | inl is ↦ let both = sym is ∙ exact ∙ named.1 in cc
      | inr is ↦ let both = sym is ∙ exact ∙ named.1 in cc
    ]
