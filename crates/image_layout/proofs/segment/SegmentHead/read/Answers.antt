use Rattle.image_layout.proofs.HeadLemmas.{head_bytes-all}
use Rattle.image_layout.proofs.segment.SegmentHead.read.Goals as goal

-- 8 bytes are those of the head that was read
pub returns-clause-bytes : goal.returns-clause-bytes
returns-clause-bytes c = head_bytes-all c.args.bytes.now _ c.read_head.ensures c.told-bytes c.fits-bytes
