-- The rewrite of the entry is what the duty of a session allows behind a whole image.
use Rattle.ota_session.proofs.CountLemmas.{counted_err, counted_ok}
use Rattle.ota_session.proofs.SealLemmas.{can_seal_at, not_sealed_at, seal_look_at, seal_room_at, sealed_at}
use Rattle.ota_session.proofs.sealing.Sealed+D+UpdateDuty.set_boot.Goals as goal

pub rewrite_entry-core-requires : goal.rewrite_entry-core-requires
rewrite_entry-core-requires g c =
    let can = can_seal_at _ c.args.self c.self.view_is c.requires.session in
    record {
      two = can.two;
      aligned = can.aligned;
      inside = can.inside;
      small = can.small;
      may = can.may;
      room = seal_room_at c.args.beat.now.probe _ c.args.self c.self.view_is c.requires.room;
      look = seal_look_at c.args.beat.now.probe _ c.args.self c.self.view_is c.requires.look;
    }

pub returns-in-Ok-clause-ok : goal.returns-in-Ok-clause-ok
returns-in-Ok-clause-ok g c =
    sealed_at c.args.beat.now.probe _ c.args.self c.self.view_is c.rewrite_entry-core.result.0
    c.rewrite_entry-core.result.1 c.rewrite_entry-core.ensures.ran c.in-Ok.field-0 c.in-Ok.is

pub returns-in-Err-clause-err : goal.returns-in-Err-clause-err
returns-in-Err-clause-err g c =
    not_sealed_at c.args.beat.now.probe _ c.args.self c.self.view_is c.rewrite_entry-core.result.0
    c.rewrite_entry-core.result.1 c.rewrite_entry-core.ensures.ran c.in-Err.no c.in-Err.is

pub returns-in-Ok-clause-ops : goal.returns-in-Ok-clause-ops
returns-in-Ok-clause-ops g c =
    counted_ok 2 c.args.beat.now.ops c.rewrite_entry-core.new.beat.ops
    c.rewrite_entry-core.result.1 c.rewrite_entry-core.ensures.ops c.in-Ok.field-0 c.in-Ok.is

pub returns-in-Err-clause-ops : goal.returns-in-Err-clause-ops
returns-in-Err-clause-ops g c =
    counted_err 2 c.args.beat.now.ops c.rewrite_entry-core.new.beat.ops
    c.rewrite_entry-core.result.1 c.rewrite_entry-core.ensures.ops c.in-Err.no c.in-Err.is
