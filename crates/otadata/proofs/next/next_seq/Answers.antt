use Rattle.otadata.proofs.NextLemmas.{next-follows}
use Rattle.otadata.proofs.next.next_seq.Goals as goal

pub returns-clause-follows : goal.returns-clause-follows
returns-clause-follows c =
    let follows = next-follows c.args.slots c.args.seq c.args.slot c.requires.numbered c.requires.within in
    rw (c.from-seq.ensures, c.from-slot.ensures, c.from-slots.ensures) follows
