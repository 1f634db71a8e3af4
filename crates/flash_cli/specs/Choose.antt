-- What the command `choose FLASH` comes to.
use Rattle.std.specs.Prelude.{ℕ, List, Result, Ok, Err}
use Rattle.flash_cli.specs.declared.choice.Choice.{Choice}
use Rattle.flash_text.specs.declared.refusal.Refusal.{Refusal}
use Rattle.flash_cli.specs.Answer.{Answer, text_only}
use Rattle.flash_cli.specs.Choice.{choice_of}
use Rattle.flash_cli.specs.Text.{choice_text}

-- the answer of the command on a flash: the lines of its choice
abbrev pub answer_of_choice : Result Choice Refusal → Result Answer Refusal
answer_of_choice (Ok choice) = Ok (text_only (choice_text choice))
answer_of_choice (Err why) = Err why

-- what the command comes to on a flash
abbrev pub choose_answer : List ℕ → Result Answer Refusal
choose_answer flash = answer_of_choice (choice_of flash)
