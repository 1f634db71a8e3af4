use Rattle.image_layout.proofs.HeadLemmas.{head_of-all}
use Rattle.image_layout.proofs.segment.SegmentHead.put.Goals as goal

-- the bytes that were put are the head
pub returns-clause-exact : goal.returns-clause-exact
returns-clause-exact c = head_of-all _ c.args.self.now c.put_head.ensures.bytes c.put_head.ensures.sized
