-- What a command comes to: a text, and the files that it puts.
use Rattle.std.specs.Prelude.{◌≡◌, ℕ, List, [], ◌∷◌, map, take, Option, Some, IfSome}
use Rattle.std.specs.FinMap.{insert}
use Rattle.pipe_ends.specs.Store.{Files}
use Rattle.pipe_ends.specs.MemStore.{named_bytes}
use Rattle.flash_cli.specs.declared.answer.Answer.{Answer as CodeAnswer}
use Rattle.flash_cli.specs.declared.answer.Finished.{Finished as CodeFinished}
use Rattle.flash_text.specs.declared.refusal.Refusal.{Refusal}
use Rattle.flash_cli.specs.declared.status.Status.{Status}
use Rattle.flash_cli.specs.declared.status.Status.TheVariants.{Usage, Refused}
use Rattle.flash_text.specs.Text.{refusal_line}
use Rattle.flash_cli.specs.Text.{usage_line}

-- what a command comes to: the text that it pushes, and the files that it puts, in order, each a
-- name with bytes
pub record Answer : Type 0 where
  pub text : List ℕ
  pub puts : List (List ℕ × List ℕ)

-- an answer that puts nothing
abbrev pub text_only : List ℕ → Answer
text_only text = record { text = text; puts = [] }

-- an answer of the code
abbrev pub shown_answer : CodeAnswer → Answer
shown_answer answer = record { text = answer.text.items; puts = map named_bytes answer.puts.items }

-- what words come to: the status of the work, and the answer
pub record Outcome : Type 0 where
  pub status : Status
  pub answer : Answer

-- an outcome of the code
abbrev pub shown_outcome : CodeFinished → Outcome
shown_outcome finished = record { status = finished.status; answer = shown_answer finished.answer }

-- words that are no command push the usage line
abbrev pub usage_outcome : Outcome
usage_outcome = record { status = Usage; answer = text_only usage_line }

-- a refused command pushes the line of its refusal, and puts nothing
abbrev pub refused_outcome : List ℕ → Refusal → Outcome
refused_outcome name why =
    record { status = Refused why; answer = text_only (refusal_line name why) }

-- the files of a store after these were put, in order
abbrev pub files_after : Files → List (List ℕ × List ℕ) → Files
files_after files [] = files
files_after files (file ∷ more) = files_after (insert files file.0 file.1) more

-- where the files were told, they are told again, with these put and each other as it was
abbrev pub TellsPuts : Option Files → List (List ℕ × List ℕ) → Option Files → Type 0
TellsPuts before puts after = IfSome before (λ files. after ≡ Some (files_after files puts))

-- where the files were told, they are told again, with the first of these put: none, some or all
abbrev pub TellsSomePuts : Option Files → List (List ℕ × List ℕ) → Option Files → Type 0
TellsSomePuts before puts after = (n : ℕ) × TellsPuts before (take n puts) after
