use Rattle.std.proofs.Common.{◌≡◌, Bool, true, false, refl, ap, ◌∙◌, rules, Err}
use Rattle.bus_hub.proofs.Spans.{split_reaches}
use Rattle.bus_hub.proofs.Fetching.{denied_is, fetched_is}
use Rattle.bus_hub.proofs.bus.Bus.fetch_in.Goals as goal

clash : (b : Bool) → b ≡ true → b ≡ false → ⊥
clash b holds fails = cc

-- the range is there, and the mask does not serve it
pub returns-then-not-serves : goal.returns-then-not-serves
returns-then-not-serves g c = record {
  by_answer = (
    split_reaches c.args.self.now.map (g.D.Nor.size c.args.self.now.dev) c.args.at c.args.len
        c.in-Some.span c.in-Some.ensures.some,
    λ served. clash c.serves.result (c.serves.ensures.meaning.1 served) c.if-not-serves.true,
    refl,
  );
}

-- the device refused
pub returns-in-Err-Off : goal.returns-in-Err-Off
returns-in-Err-Off g c = record {
  by_answer =
      let n = g.D.Nor in
      let k = g.K.Duty in
      denied_is n.bytes n.size n.off n.steps n.faults n.setting n.may_end n.may_tear n.may_refuse
      n.must_refuse k.part k.grants k.after k.good g.met.D.Nor.sized
      c.args.self.now c.fill.new.self c.args.regs c.args.at c.args.len c.in-Some.span
      c.fill.result _ c.in-Some.ensures.some (c.serves.ensures.meaning.0 c.if-not-serves.false)
      (c.in-Err-Off.is ∙ ap Err c.in-Err-Off.field-0-is) c.fill.ensures.device
      c.fill.ensures.exact;
}

pub returns-in-Err-Failed : goal.returns-in-Err-Failed
returns-in-Err-Failed g c = record {
  by_answer =
      let n = g.D.Nor in
      let k = g.K.Duty in
      denied_is n.bytes n.size n.off n.steps n.faults n.setting n.may_end n.may_tear n.may_refuse
      n.must_refuse k.part k.grants k.after k.good g.met.D.Nor.sized
      c.args.self.now c.fill.new.self c.args.regs c.args.at c.args.len c.in-Some.span
      c.fill.result _ c.in-Some.ensures.some (c.serves.ensures.meaning.0 c.if-not-serves.false)
      (c.in-Err-Failed.is ∙ ap Err c.in-Err-Failed.field-0-is) c.fill.ensures.device
      c.fill.ensures.exact;
}

-- the bytes were read and noted
pub returns : goal.returns
returns g c = record {
  by_answer =
      let n = g.D.Nor in
      let k = g.K.Duty in
      fetched_is n.bytes n.size n.off n.steps n.faults n.setting n.may_end n.may_tear n.may_refuse
      n.must_refuse k.part k.grants k.after k.good g.met.D.Nor.sized
      c.args.self.now c.fill.new.self c.keep.new.self c.args.c c.args.k c.args.regs c.args.at
      c.args.len c.in-Some.span c.fill.result c.fill.new.out c.in-Some.ensures.some
      (c.serves.ensures.meaning.0 c.if-not-serves.false) c.in-Ok.is c.fill.ensures.device
      c.fill.ensures.exact (search rules) c.in-Ok.ensures.bytes c.keep.ensures.exact;
}
