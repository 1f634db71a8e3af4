use Rattle.flash_cli.specs.Command.{shown_row}
use Rattle.flash_cli.specs.SweepWords.{sweep_made}
use Rattle.flash_cli.proofs.WordLemmas.{cores_read}
use Rattle.flash_cli.proofs.sweep_words.Sweep.read.Goals as goal

-- the row of the first word makes the sweep of the others
pub returns-then-fits : goal.returns-then-fits
returns-then-fits c = record {
  exact = cores_read sweep_made c.args.words.now c.word-item.result _ (shown_row c.in_ok-row.row) _ _
      _ c.in-len1-up.len_at_least c.word-item.is c.as_str.ensures.value c.table.ensures.exact
      c.in_ok-row.ensures.exact c.if-row.true c.fits.ensures.exact c.if-fits.true
      c.made.ensures.exact;
}
