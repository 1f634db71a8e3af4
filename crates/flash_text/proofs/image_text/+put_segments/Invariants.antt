use Rattle.std.proofs.Common.{length}
use Rattle.flash_text.proofs.image_text.+put_segments.Given as goal

-- each call has a segment less to show
abbrev pub decreases-put_segments : goal.decreases-put_segments
decreases-put_segments l = length l.notes.now
