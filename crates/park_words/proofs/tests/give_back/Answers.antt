use Rattle.std.proofs.Common.{subst, sym, append-nil}
use Rattle.park_words.specs.Rule.{StandsBy}
use Rattle.park_words.proofs.tests.give_back.Goals as goal

pub give_nothing-requires-clause-value : goal.give_nothing-requires-clause-value
give_nothing-requires-clause-value g c =
    let k = c.requires.same in let V = g.V.Records in let v = c.args.seat.now.view in record {
      other_is = k.other_is;
      does = (k.own, k.running);
      stands_by = subst
          (λ share. StandsBy V.stands c.args.value v.base v.core share v.other_share)
          (sym (append-nil v.share)) k.stands_by;
    }
