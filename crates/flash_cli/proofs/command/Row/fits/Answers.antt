use Rattle.flash_cli.specs.Command.{shown_row}
use Rattle.flash_cli.proofs.WordLemmas.{words_fit}
use Rattle.flash_cli.proofs.command.Row.fits.Goals as goal

-- so many names, and then options
pub returns-clause-exact : goal.returns-clause-exact
returns-clause-exact c =
    words_fit (shown_row c.args.self.now) c.args.words.now _ _ c.if-words-self.false
    c.are_file_names-names.ensures.exact c.are_options-options.ensures.exact
