-- The rewrite is all that the duty of a confirmation allows.
use Rattle.std.proofs.Common.{ap}
use Rattle.partition_table.specs.Layout.{Places}
use Rattle.ota_session.proofs.CountLemmas.{counted_err, counted_ok}
use Rattle.ota_session.proofs.SealLemmas.{can_confirm_at, confirmed_at, not_confirmed_at, room_at}
use Rattle.ota_session.proofs.confirming.confirm.Goals as goal

pub rewrite_entry-core-requires : goal.rewrite_entry-core-requires
rewrite_entry-core-requires g c =
    let same = ap (λ (p : Places). p.otadata) c.layout.view_is in
    let can = can_confirm_at c.args.beat.now.probe _ c.args.layout.now c.args.rewrite.now c.args.core
    same c.requires.session in
    record {
      two = can.two;
      aligned = can.aligned;
      inside = can.inside;
      small = can.small;
      may = can.may;
      room = room_at c.args.beat.now.probe _ c.args.layout.now c.args.rewrite.now c.args.core same
          c.requires.room;
      look = c.requires.look;
    }

pub returns-in-Ok-clause-ok : goal.returns-in-Ok-clause-ok
returns-in-Ok-clause-ok g c =
    confirmed_at c.args.beat.now.probe _ c.args.layout.now c.args.rewrite.now c.args.core
    (ap (λ (p : Places). p.otadata) c.layout.view_is) c.rewrite_entry-core.result.0
    c.rewrite_entry-core.result.1 c.rewrite_entry-core.ensures.ran c.in-Ok.field-0 c.in-Ok.is

pub returns-in-Err-clause-err : goal.returns-in-Err-clause-err
returns-in-Err-clause-err g c =
    not_confirmed_at c.args.beat.now.probe _ c.args.layout.now c.args.rewrite.now c.args.core
    (ap (λ (p : Places). p.otadata) c.layout.view_is) c.rewrite_entry-core.result.0
    c.rewrite_entry-core.result.1 c.rewrite_entry-core.ensures.ran c.in-Err.no c.in-Err.is

pub returns-in-Ok-clause-ops : goal.returns-in-Ok-clause-ops
returns-in-Ok-clause-ops g c =
    counted_ok 2 c.args.beat.now.ops c.rewrite_entry-core.new.beat.ops
    c.rewrite_entry-core.result.1 c.rewrite_entry-core.ensures.ops c.in-Ok.field-0 c.in-Ok.is

pub returns-in-Err-clause-ops : goal.returns-in-Err-clause-ops
returns-in-Err-clause-ops g c =
    counted_err 2 c.args.beat.now.ops c.rewrite_entry-core.new.beat.ops
    c.rewrite_entry-core.result.1 c.rewrite_entry-core.ensures.ops c.in-Err.no c.in-Err.is
