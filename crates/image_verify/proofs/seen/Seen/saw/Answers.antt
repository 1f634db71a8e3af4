use Rattle.image_verify.proofs.KeepFacts.{saw_more}
use Rattle.image_verify.proofs.seen.Seen.saw.Goals as goal

-- the count and the first bytes are those of the bytes and the part
pub returns : goal.returns
returns c = λ bytes seen.
    let both = saw_more c.args.self.now _ _ c.args.part.now bytes c.saturating_add-self.ensures c.keep.ensures seen in
    record { count = both.0; front = both.1 }
