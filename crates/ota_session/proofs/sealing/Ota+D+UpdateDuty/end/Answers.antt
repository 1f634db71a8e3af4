-- What is read back tells whether the image is whole.
use Rattle.ota_session.proofs.SealLemmas.{all_written_at, faulty_at, nothing_at, read_none_at, read_part_at, read_whole_at, unread_at, verified_at}
use Rattle.ota_session.proofs.sealing.Ota+D+UpdateDuty.end.Goals as goal

pub read_back-core-requires : goal.read_back-core-requires
read_back-core-requires g c = record {
  written = all_written_at _ c.args.self c.self.view_is c.requires.session c.requires.whole
      c.if-written-eq0.false;
}

pub returns-in-None-clause-ok : goal.returns-in-None-clause-ok
returns-in-None-clause-ok g c =
    verified_at _ c.args.self c.self.view_is c.requires.session c.requires.whole
    c.if-written-eq0.false c.read_back-core.result.0 c.read_back-core.result.1
    c.read_back-core.ensures.ran c.read_back-core.ensures.exact c.in-Ok.found c.in-Ok.is c.in-None.is

pub returns-in-Some-clause-err : goal.returns-in-Some-clause-err
returns-in-Some-clause-err g c =
    faulty_at _ c.args.self c.self.view_is c.requires.session c.requires.whole
    c.if-written-eq0.false c.read_back-core.result.0 c.read_back-core.result.1
    c.read_back-core.ensures.ran c.read_back-core.ensures.exact c.in-Ok.found c.in-Some.bad c.in-Ok.is
    c.in-Some.is

pub returns-in-Err-clause-err : goal.returns-in-Err-clause-err
returns-in-Err-clause-err g c =
    unread_at _ c.args.self c.self.view_is c.requires.session c.requires.whole
    c.if-written-eq0.false c.read_back-core.result.0 c.read_back-core.result.1
    c.read_back-core.ensures.ran c.read_back-core.ensures.exact c.in-Err.why c.unread.result
    c.in-Err.is c.unread.ensures.exact

pub returns-then-written-eq0-clause-err : goal.returns-then-written-eq0-clause-err
returns-then-written-eq0-clause-err g c =
    nothing_at _ c.args.self c.self.view_is c.requires.session c.requires.whole
    c.if-written-eq0.true

-- in exactly the quiet periods of a read of all bytes that are written
pub returns-in-None-clause-periods : goal.returns-in-None-clause-periods
returns-in-None-clause-periods g c =
    read_whole_at _ c.args.self c.self.view_is c.requires.whole c.read_back-core.result.0
    c.read_back-core.result.1 c.read_back-core.ensures.periods c.in-Ok.found c.in-Ok.is

pub returns-in-Some-clause-periods : goal.returns-in-Some-clause-periods
returns-in-Some-clause-periods g c =
    read_whole_at _ c.args.self c.self.view_is c.requires.whole c.read_back-core.result.0
    c.read_back-core.result.1 c.read_back-core.ensures.periods c.in-Ok.found c.in-Ok.is

pub returns-in-Err-clause-periods : goal.returns-in-Err-clause-periods
returns-in-Err-clause-periods g c =
    read_part_at _ c.args.self c.self.view_is c.requires.whole c.read_back-core.result.0
    c.read_back-core.result.1 c.read_back-core.ensures.periods c.in-Err.why c.unread.result
    c.in-Err.is c.unread.ensures.exact

pub returns-then-written-eq0-clause-periods : goal.returns-then-written-eq0-clause-periods
returns-then-written-eq0-clause-periods g c =
    read_none_at _ c.args.self c.self.view_is c.if-written-eq0.true
