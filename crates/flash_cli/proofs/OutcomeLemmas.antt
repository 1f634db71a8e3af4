-- What words come to: that there is an outcome for each store, and which one where it tells its files.
use Rattle.std.proofs.Common.{◌≡◌, ◌≢◌, ℕ, suc, List, [], ◌∷◌, map, Option, Some, None, Result, Ok, Err, refl, sym, ap, ◌∙◌}
use Rattle.std.specs.Prelude.{MatchOption, IsSome}
use Rattle.std.specs.FinMap.{get}
use Rattle.pipe_ends.specs.declared.file.File.{File}
use Rattle.pipe_ends.specs.MemStore.{named_bytes}
use Rattle.pipe_ends.specs.Store.{Files}
use Rattle.flash_cli.specs.Command.{Command}
use Rattle.flash_text.specs.declared.refusal.Refusal.{Refusal}
use Rattle.flash_cli.specs.declared.status.Status.{Status}
use Rattle.flash_cli.specs.declared.status.Status.TheVariants.{Done, Usage, Refused, StoreFault, DeviceFault, PowerCut, Memory, SinkFault}
use Rattle.flash_cli.specs.Answer.{Answer, Outcome}
use Rattle.flash_cli.specs.Status.{IsWork, IsDevices}
use Rattle.flash_cli.specs.Reading.{Reading, Ended, Asks, Absence, ComesTo, read_in, by_answer}
use Rattle.flash_cli.specs.Report.{IsOutcome, EndsBeforeText, outcome_in, outcome_of, reading_of}
use Rattle.flash_cli.proofs.PutLemmas.{puts_none}

-- in told files a reading comes to what it comes to there
pub comes_in : {A : Type 0} (files : Files) (number : ℕ) (reading : Reading A)
    → ComesTo (Some files) number reading (read_in files number reading)
comes_in files number (Ended value) = refl
comes_in files number (Asks name next) = (
  get files name,
  (
    refl,
    elim (get files name) as (λ answer. MatchOption answer
        (by_answer (Err (record { file = number; name = name })) (λ bytes. read_in files (suc number) (next bytes)) answer
        ≡ Err (record { file = number; name = name }))
        (λ bytes. ComesTo (Some files) (suc number) (next bytes)
        (by_answer (Err (record { file = number; name = name })) (λ bytes. read_in files (suc number) (next bytes)) answer))) [
          | None ↦ refl
          | Some bytes ↦ comes_in files (suc number) (next bytes)
        ],
  ),
)

-- and to nothing else
pub comes_only : {A : Type 0} (files : Files) (number : ℕ) (reading : Reading A) (result : Result A Absence)
    → ComesTo (Some files) number reading result → result ≡ read_in files number reading
comes_only files number (Ended value) result comes = comes
comes_only files number (Asks name next) result (None, (is, rest)) = rw is rest
comes_only files number (Asks name next) result (Some bytes, (is, rest)) =
    rw is (comes_only files (suc number) (next bytes) result rest)

-- where no files are told, a reading may come to its first file absent
some_result : {A : Type 0} (reading : Reading A)
    → (result : Result A Absence) × ComesTo None 0 reading result
some_result (Ended value) = (Ok value, refl)
some_result (Asks name next) = (Err (record { file = 0; name = name }), (None, (tt, refl)))

-- words come to some outcome
some_outcome : (told : Option Files) (command : Option Command)
    → (outcome : Outcome) × IsOutcome told command outcome
some_outcome told None = (_, refl)
some_outcome None (Some command) =
    let some = some_result (reading_of command) in
    (outcome_of some.0, record { result = some.0; comes = some.1; is = refl })
some_outcome (Some files) (Some command) = (
  outcome_in files (Some command),
  record {
    result = read_in files 0 (reading_of command);
    comes = comes_in files 0 (reading_of command);
    is = refl;
  },
)

-- words come to a status of the work
pub is_work : (told : Option Files) (command : Option Command) (outcome : Outcome)
    → IsOutcome told command outcome → IsWork outcome.status
is_work told None outcome comes = rw comes tt
is_work told (Some command) outcome comes = rw comes.is (by comes.result)
  where
    by : (result : Result (Result Answer Refusal) Absence) → IsWork (outcome_of result).status
    by (Ok (Ok answer)) = tt
    by (Ok (Err why)) = tt
    by (Err absence) = tt

-- which is none of a device
pub no_device : (status : Status) → IsWork status → IsDevices status → ⊥
no_device Done work device = device
no_device Usage work device = device
no_device (Refused why) work device = device
no_device StoreFault work device = work
no_device (DeviceFault step) work device = work
no_device (PowerCut step) work device = work
no_device Memory work device = work
no_device SinkFault work device = work

-- a call that put and pushed nothing ended before its text
pub nothing_done : (told put : Option Files) (command : Option Command) (pushed : Option (List ℕ))
    → put ≡ told → EndsBeforeText told command put pushed pushed
nothing_done told put command pushed same =
    let some = some_outcome told command in
    record {
      outcome = some.0;
      comes = some.1;
      puts = (0, rw same (puts_none told));
      silent = refl;
    }

-- an outcome that puts a file is that of a command
pub commands_puts : (told : Option Files) (command : Option Command) (outcome : Outcome) (given : List File)
    → IsOutcome told command outcome → outcome.answer.puts ≡ map named_bytes given → given ≢ []
    → IsSome command
commands_puts told (Some command) outcome given comes are some = refl
commands_puts told None outcome [] comes are some = absurd (some refl)
commands_puts told None outcome (file ∷ given) comes are some =
    let none : [] ≡ map named_bytes (file ∷ given) = sym (ap (λ (o : Outcome). o.answer.puts) comes) ∙ are in
    absurd (cc)
