use Rattle.std.proofs.Common.{◌∙◌, sym}
use Rattle.boot_select.specs.Candidates.{is_whole}
use Rattle.boot_run.proofs.VerdictLemmas.{reject_active, reject_two}
use Rattle.boot_run.proofs.rejecting.reject_by.Goals as goal

-- the rewrite is of one of the two sectors
pub write_entry-requires-clause-two : goal.write_entry-requires-clause-two
write_entry-requires-clause-two g c =
    reject_two c.args.layout.now (is_whole c.args.whole.now) c.args.e0.now c.args.e1.now
    c.in-Ok.write
    (sym c.reject_write.ensures.exact ∙ c.in-Ok.is)

-- an entry is active
pub active_slot-requires : goal.active_slot-requires
active_slot-requires g c =
    reject_active c.args.layout.now (is_whole c.args.whole.now) c.args.e0.now c.args.e1.now
    c.in-Ok.write
    (sym c.reject_write.ensures.exact ∙ c.in-Ok.is)
