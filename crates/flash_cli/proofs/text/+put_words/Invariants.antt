use Rattle.std.proofs.Common.{length}
use Rattle.flash_cli.proofs.text.+put_words.Given as goal

-- fewer rows are left
abbrev pub decreases-put_words : goal.decreases-put_words
decreases-put_words l = length l.rows.now
