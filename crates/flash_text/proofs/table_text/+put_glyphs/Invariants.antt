use Rattle.std.proofs.Common.{length}
use Rattle.flash_text.proofs.table_text.+put_glyphs.Given as goal

-- each call has a byte less to show
abbrev pub decreases-put_glyphs : goal.decreases-put_glyphs
decreases-put_glyphs l = length l.text.now
