-- What follows from the clauses of the top call.
use Rattle.std.proofs.Common.{◌≡◌, [], Option, Some, None, Result, Ok, Err, refl, sym, ap, ◌∙◌}
use Rattle.pipe_ends.specs.Store.{Files}
use Rattle.flash_text.specs.declared.refusal.Refusal.{Refusal}
use Rattle.flash_cli.specs.declared.status.Status.TheVariants.{Done, Usage, Refused, StoreFault, DeviceFault, PowerCut, Memory, SinkFault}
use Rattle.flash_cli.specs.Command.{Command}
use Rattle.flash_cli.specs.Answer.{Answer, Outcome}
use Rattle.flash_cli.specs.Reading.{Absence}
use Rattle.flash_cli.specs.Report.{IsOutcome, outcome_in, outcome_of, reading_of}
use Rattle.flash_cli.specs.Laws.{UsageIsOfNoCommand, NoCommandIsUsage, ToldFilesDetermine, RefusedPutsNothing, FaultlessIsWork}
use Rattle.flash_cli.proofs.OutcomeLemmas.{comes_only}

-- a command never comes to usage
never_usage : (result : Result (Result Answer Refusal) Absence) → (outcome_of result).status ≡ Usage → ⊥
never_usage (Ok (Ok answer)) is = cc
never_usage (Ok (Err why)) is = cc
never_usage (Err absence) is = cc

pub usage_only : UsageIsOfNoCommand
usage_only told put None before after ends = refl
usage_only told put (Some command) before after ends =
    absurd (never_usage ends.comes.result (sym (ends.ends ∙ ap (λ (o : Outcome). o.status) ends.comes.is)))

pub usage_always : NoCommandIsUsage
usage_always told put (Some command) status before after none whole fault device = absurd (cc)
usage_always told put None Done before after none whole fault device =
    let ends = whole tt in absurd (let is : Done ≡ Usage = ends.ends ∙ ap (λ (o : Outcome). o.status) ends.comes in cc)
usage_always told put None Usage before after none whole fault device = tt
usage_always told put None (Refused why) before after none whole fault device =
    let ends = whole tt in absurd (let is : Refused why ≡ Usage = ends.ends ∙ ap (λ (o : Outcome). o.status) ends.comes in cc)
usage_always told put None StoreFault before after none whole fault device = absurd (let some = fault refl in cc)
usage_always told put None (DeviceFault step) before after none whole fault device = absurd (device tt)
usage_always told put None (PowerCut step) before after none whole fault device = absurd (device tt)
usage_always told put None Memory before after none whole fault device = tt
usage_always told put None SinkFault before after none whole fault device = tt

-- where the files are told, there is one outcome
one_outcome : (files : Files) (command : Option Command) (outcome : Outcome)
    → IsOutcome (Some files) command outcome → outcome ≡ outcome_in files command
one_outcome files None outcome comes = comes
one_outcome files (Some command) outcome comes =
    comes.is ∙ ap outcome_of (comes_only files 0 (reading_of command) comes.result comes.comes)

pub determined : ToldFilesDetermine
determined files put command status before after ends =
    let one = one_outcome files command ends.outcome ends.comes in
    record {
      ends = ends.ends ∙ ap (λ (o : Outcome). o.status) one;
      puts = rw one at ends.puts;
      text = rw one at ends.text;
    }

-- an outcome with the status of a refusal puts nothing
none_put : (result : Result (Result Answer Refusal) Absence) (why : Refusal)
    → (outcome_of result).status ≡ Refused why → (outcome_of result).answer.puts ≡ []
none_put (Ok (Ok answer)) why is = absurd (cc)
none_put (Ok (Err other)) why is = refl
none_put (Err absence) why is = refl

-- words with the status of a refusal put nothing
no_puts : (told : Option Files) (command : Option Command) (outcome : Outcome) (why : Refusal)
    → IsOutcome told command outcome → outcome.status ≡ Refused why → outcome.answer.puts ≡ []
no_puts told None outcome why comes is = ap (λ (o : Outcome). o.answer.puts) comes
no_puts told (Some command) outcome why comes is =
    ap (λ (o : Outcome). o.answer.puts) comes.is
    ∙ none_put comes.result why (sym (ap (λ (o : Outcome). o.status) comes.is) ∙ is)

pub refused_nothing : RefusedPutsNothing
refused_nothing told put command why before after ends =
    rw (no_puts told command ends.outcome why ends.comes (sym ends.ends)) at ends.puts

pub faultless : FaultlessIsWork
faultless Done a b c d store sink device none quiet = tt
faultless Usage a b c d store sink device none quiet = tt
faultless (Refused why) a b c d store sink device none quiet = tt
faultless StoreFault a b c d store sink device none quiet = absurd (none (store refl))
faultless (DeviceFault step) a b c d store sink device none quiet = absurd (device tt)
faultless (PowerCut step) a b c d store sink device none quiet = absurd (device tt)
faultless Memory a b c d store sink device none quiet = tt
faultless SinkFault a b c d store sink device none quiet = absurd (quiet (sink refl))
