-- The erase and the program are the steps of the rewrite, one behind the other.
use Rattle.std.proofs.Common.{◌≡◌, ℕ, ◌+◌, ◌*◌, ap, arith, length}
use Rattle.flash_steps.specs.Steps.{erase_steps, write_steps}
use Rattle.flash_steps.proofs.EraseLemmas.{count_of_erase}
use Rattle.flash_ops.specs.Moves.{periods_of}
use Rattle.flash_ops.proofs.Telling.{told_then}
use Rattle.ota_session.proofs.CountLemmas.{counted_err, counted_ok, counted_within, counts_on, entry_periods}
use Rattle.ota_session.proofs.EntryLemmas.{can_erase, can_program, has_rewritten, not_erased}
use Rattle.ota_session.proofs.entries.rewrite_entry.Goals as goal

pub erase-core-requires-clause-can : goal.erase-core-requires-clause-can
erase-core-requires-clause-can g c =
    can_erase c.args.beat.now.probe c.args.otadata c.args.change.now c.args.core _ c.put.new.out
    (ap (λ n. c.args.otadata + 4096 * n) c.from.ensures) c.put.ensures.bytes c.requires.aligned
    c.put.array_long c.requires.may c.requires.room c.requires.look

pub returns-in-Err-clause-ran : goal.returns-in-Err-clause-ran
returns-in-Err-clause-ran g c =
    not_erased c.args.beat.now.probe c.args.otadata c.args.change.now c.args.core _ c.put.new.out
    (ap (λ n. c.args.otadata + 4096 * n) c.from.ensures) c.put.ensures.bytes
    c.erase-core.result.0 c.erase-core.result.1 c.in-Err.no c.in-Err.is c.erase-core.ensures.ran

pub write-requires-clause-can : goal.write-requires-clause-can
write-requires-clause-can g c =
    can_program c.args.beat.now.probe c.args.otadata c.args.change.now c.args.core _ c.put.new.out
    (ap (λ n. c.args.otadata + 4096 * n) c.from.ensures) c.put.ensures.bytes
    c.erase-core.result.0 c.erase-core.new.beat.probe c.erase-core.result.1 c.in_default.field-0
    c.requires.aligned c.put.array_long c.requires.may c.requires.room c.requires.look
    c.erase-core.ensures.probe c.in_default.is c.erase-core.ensures.ran

pub returns-clause-ran : goal.returns-clause-ran
returns-clause-ran g c =
    has_rewritten c.args.beat.now.probe c.args.otadata c.args.change.now c.args.core _ c.put.new.out
    (ap (λ n. c.args.otadata + 4096 * n) c.from.ensures) c.put.ensures.bytes
    c.erase-core.result.0 c.write.result.0 c.erase-core.new.beat.probe c.erase-core.result.1
    c.write.result.1 c.in_default.field-0 c.erase-core.ensures.probe c.in_default.is
    c.erase-core.ensures.ran c.write.ensures.ran

pub returns-in-Err-clause-ops : goal.returns-in-Err-clause-ops
returns-in-Err-clause-ops g c =
    let at : ℕ = c.args.otadata + 4096 * c.from.result in
    let first = length (erase_steps at 4096) in
    let one : first ≡ 1 = count_of_erase at 4096 in
    counted_within first 2 c.args.beat.now.ops c.erase-core.new.beat.ops (omega (arith, one))
    (counted_err first c.args.beat.now.ops c.erase-core.new.beat.ops c.erase-core.result.1
    c.erase-core.ensures.ops c.in-Err.no c.in-Err.is)

-- the program counts one period behind that of the erase
pub returns-clause-ops : goal.returns-clause-ops
returns-clause-ops g c =
    let at : ℕ = c.args.otadata + 4096 * c.from.result in
    let aligned = c.requires.aligned in
    let first = length (erase_steps at 4096) in
    let one : first ≡ 1 = count_of_erase at 4096 in
    let other = entry_periods at c.put.new.out (omega arith) c.put.array_long in
    counts_on first (periods_of (write_steps at c.put.new.out)) 2 c.args.beat.now.ops
    c.erase-core.new.beat.ops c.write.new.beat.ops c.write.result.1 (omega (arith, one, other))
    (counted_ok first c.args.beat.now.ops c.erase-core.new.beat.ops c.erase-core.result.1
    c.erase-core.ensures.ops c.in_default.field-0 c.in_default.is) c.write.ensures.ops

-- and its points are told behind those of the erase
pub returns-clause-told : goal.returns-clause-told
returns-clause-told g c =
    told_then (λ p. g.P.Pace.told p.now) c.args.beat.now.pace c.erase-core.new.beat.pace
    c.args.beat.now.ops c.erase-core.new.beat.ops c.write.new.beat.ops c.erase-core.ensures.pace
    c.erase-core.ensures.told c.write.ensures.told
