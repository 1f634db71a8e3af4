use Rattle.std.proofs.Common.{◌∙◌, sym, ap, Ok}
use Rattle.boot_run.proofs.VerdictLemmas.{confirm_active, confirm_two}
use Rattle.boot_run.proofs.confirming.confirm_by.Goals as goal

-- the rewrite is of one of the two sectors
pub write_entry-requires-clause-two : goal.write_entry-requires-clause-two
write_entry-requires-clause-two g c =
    confirm_two c.args.e0.now c.args.e1.now c.in-Ok-Some.write
    (sym c.confirm_write.ensures.exact ∙ c.in-Ok-Some.is ∙ ap (λ w. Ok w) c.in-Ok-Some.field-0-is)

-- an entry is active
pub active_slot-requires-in-Ok-Some : goal.active_slot-requires-in-Ok-Some
active_slot-requires-in-Ok-Some g c =
    confirm_active c.args.e0.now c.args.e1.now c.in-Ok-Some.field-0
    (sym c.confirm_write.ensures.exact ∙ c.in-Ok-Some.is)
