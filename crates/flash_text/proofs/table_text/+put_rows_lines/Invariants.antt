use Rattle.std.proofs.Common.{length}
use Rattle.flash_text.proofs.table_text.+put_rows_lines.Given as goal

-- each call has a row less to show
abbrev pub decreases-put_rows_lines : goal.decreases-put_rows_lines
decreases-put_rows_lines l = length l.rows.now
