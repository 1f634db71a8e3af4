-- How a call with an update ends, from what was read, made, put and pushed.
use mathlib.Core.Logic.{inl, inr}
use Rattle.std.proofs.Common.{◌≡◌, ℕ, List, [], ◌∷◌, Option, Some, None, Result, Ok, Err, refl, sym, ap}
use Rattle.std.specs.Prelude.{IfSome, string_bytes, codes}
use Rattle.pipe_ends.specs.Store.{Files, TellsPut}
use Rattle.power_cut.specs.declared.legs.LegEnd.{LegEnd}
use Rattle.power_cut.specs.declared.legs.LegEnd.TheVariants as ends
use Rattle.power_cut.specs.declared.outcome.Trial.{Trial}
use Rattle.flash_text.specs.declared.refusal.Refusal.{Refusal}
use Rattle.flash_text.specs.declared.refusal.Refusal.TheVariants.{Absent as AbsentFile}
use Rattle.update_run.specs.declared.options.Options.{Options}
use Rattle.update_run.specs.declared.refusal.OpeningNo.{OpeningNo}
use Rattle.update_run.specs.declared.refusal.OpeningNo.TheVariants as none
use Rattle.update_run.specs.Opening.{OpensUpdate}
use Rattle.update_run.specs.Updating.{last_end}
use Rattle.flash_cli.specs.Unbegun.{error_of, or_refusal}
use Rattle.flash_cli.specs.declared.error.CommandError.{CommandError}
use Rattle.flash_cli.specs.declared.error.CommandError.TheVariants.{Absent, Refused as RefusedBy, Failed}
use Rattle.flash_cli.specs.declared.error.Failure.TheVariants.{Store, Memory as OutOfMemory}
use Rattle.flash_cli.specs.declared.status.Status.{Status}
use Rattle.flash_cli.specs.Answer.{TellsPuts, refused_outcome}
use Rattle.flash_cli.specs.UpdateWords.{Update}
use Rattle.flash_cli.specs.Reading.{TellsAnswer}
use Rattle.flash_cli.specs.Updating.{IsUpdateMade, IsUpdated, IsUpdateEnd, UpdateEnds, UpdateOf, UpdateEndsWhole, outcome_of_trial, status_by}
use Rattle.flash_cli.specs.Served.{EndsBy, IsRefusal, Refuses}
use Rattle.flash_cli.proofs.PutLemmas.{puts_none}

-- what an update of the files that were read came to, the update of the words came to
pub update_came : (told : Option Files) (u : Update) (first now : ℕ) (flash image text : List ℕ)
    (result : Result Trial CommandError) → TellsAnswer told u.flash (Some flash)
    → TellsAnswer told u.image (Some image) → TellsAnswer told u.script (Some text)
    → UpdateOf flash image text u.options result → IsUpdateEnd told u first now result
update_came told u first now flash image text (Ok t) a b c is = record {
  o = is.0;
  comes = (Some flash, (a, (Some image, (b, (Some text, (c, ap Ok (sym is.1)))))));
  is = is.2;
}
update_came told u first now flash image text (Err (RefusedBy why)) a b c is =
    (Some flash, (a, (Some image, (b, (Some text, (c, ap Ok (sym is)))))))
update_came told u first now flash image text (Err (Absent file name)) a b c is = absurd is
update_came told u first now flash image text (Err (Failed Store)) a b c is = absurd is
update_came told u first now flash image text (Err (Failed OutOfMemory)) a b c is = tt

-- an update that was made comes to the outcome of its trial
made : (told : Option Files) (u : Update) (t : Trial) → IsUpdateMade told u t
    → IsUpdated told u (outcome_of_trial u t) (Some t)
made told u t is = record { result = Ok (Ok is.o); comes = is.comes; is = (is.is, refl) }

-- the one file was put
put_one : (told put : Option Files) (name bytes : List ℕ) → TellsPut told name bytes put
    → TellsPuts told ((name, bytes) ∷ []) put
put_one None put name bytes is = tt
put_one (Some files) put name bytes is = is

-- a call that ended whole with the status of an end
whole_by : (told : Option Files) (u : Update) (t : Option Trial) (put : Option Files)
    (before after : Option (List ℕ)) (end : LegEnd)
    → UpdateEndsWhole told u t (status_by end) put before after
    → UpdateEnds told u (status_by end) t put before after
whole_by told u t put before after ends.Done is = is
whole_by told u t put before after (ends.Device step) is = is
whole_by told u t put before after (ends.Cut step) is = is
whole_by told u t put before after (ends.FirstByte byte) is = is
whole_by told u t put before after ends.Empty is = is
whole_by told u t put before after (ends.Bad why) is = is

-- an update whose trial was told ended so
told_ends : (told : Option Files) (u : Update) (t : Trial) (status : Status)
    (put : Option Files) (before after : Option (List ℕ)) → IsUpdateMade told u t
    → EndsBy u t status told put before after
    → UpdateEnds told u status (Some t) put before after
told_ends told u t status put before after is (inl (inl fault, unput, silent)) =
    rw fault (inr (record {
      outcome = outcome_of_trial u t;
      comes = made told u t is;
      puts = (0, rw unput (puts_none told));
      silent = silent;
    }))
told_ends told u t status put before after is (inl (inr none, unput, silent)) =
    rw none (inr (inl (record {
      outcome = outcome_of_trial u t;
      comes = made told u t is;
      puts = (0, rw unput (puts_none told));
      silent = silent;
    })))
told_ends told u t status put before after is (inr (puts, inl (work, text))) =
    rw work (whole_by told u (Some t) put before after (last_end t.legs.items) (record {
      outcome = outcome_of_trial u t;
      comes = made told u t is;
      ends = refl;
      puts = put_one told put u.out t.flash.items puts;
      text = text;
    }))
told_ends told u t status put before after is (inr (puts, inr (inl fault, text))) =
    rw fault (record {
      outcome = outcome_of_trial u t;
      comes = made told u t is;
      puts = put_one told put u.out t.flash.items puts;
      text = text;
    })
told_ends told u t status put before after is (inr (puts, inr (inr none, text))) =
    rw none (inr (inr (record {
      outcome = outcome_of_trial u t;
      comes = made told u t is;
      puts = put_one told put u.out t.flash.items puts;
      text = text;
    })))

-- a call whose refusal was told ended so
refused_ends : (told : Option Files) (u : Update) (name : List ℕ) (why : Refusal)
    (status : Status) (before after : Option (List ℕ))
    → IsUpdated told u (refused_outcome name why) None
    → IsRefusal name why status before after → UpdateEnds told u status None told before after
refused_ends told u name why status before after is (inl (none, silent)) =
    rw none (inl (record { none = refl; unput = refl; silent = silent }))
refused_ends told u name why status before after is (inr (inl (work, text))) =
    rw work (record {
      outcome = refused_outcome name why;
      comes = is;
      ends = refl;
      puts = puts_none told;
      text = text;
    })
refused_ends told u name why status before after is (inr (inr (inl fault, text))) =
    rw fault (record {
      outcome = refused_outcome name why;
      comes = is;
      puts = puts_none told;
      text = text;
    })
refused_ends told u name why status before after is (inr (inr (inr none, text))) =
    rw none (inr (inr (record {
      outcome = refused_outcome name why;
      comes = is;
      puts = puts_none told;
      text = text;
    })))

-- a call with an update that was not made ended so
unmade_ends : (told : Option Files) (u : Update) (first now : ℕ) (error : CommandError)
    (status : Status) (before after : Option (List ℕ))
    → IsUpdateEnd told u first now (Err error) → Refuses error status before after
    → UpdateEnds told u status None told before after
unmade_ends told u first now (Absent file name) status before after comes refuses =
    refused_ends told u (string_bytes name) (AbsentFile file) status before after
    (record { result = Err (record { file = file; name = string_bytes name }); comes = comes; is = (refl, refl) })
    refuses
unmade_ends told u first now (RefusedBy why) status before after comes refuses =
    refused_ends told u (codes "") why status before after
    (record { result = Ok (Err why); comes = comes; is = (refl, refl) }) refuses
unmade_ends told u first now (Failed Store) status before after counted (fault, silent) =
    rw fault (inl (record { none = refl; unput = refl; silent = silent }))
unmade_ends told u first now (Failed OutOfMemory) status before after counted (none, silent) =
    rw none (inl (record { none = refl; unput = refl; silent = silent }))

-- a call with an update ended so: it was made, or not
pub update_told : (u : Update) (told : Option Files) (t : Trial) (status : Status)
    (trial : Option Trial) (read put : Option Files) (before after : Option (List ℕ))
    → trial ≡ Some t → IsUpdateMade told u t → read ≡ told → EndsBy u t status read put before after
    → UpdateEnds told u status trial put before after
update_told u told t status trial read put before after some made same ends =
    rw some (told_ends told u t status put before after made (rw same at ends))

pub update_unmade : (u : Update) (told : Option Files) (first now : ℕ) (error : CommandError)
    (status : Status) (trial : Option Trial) (read : Option Files) (before after : Option (List ℕ))
    → trial ≡ None → IsUpdateEnd told u first now (Err error) → read ≡ told
    → Refuses error status before after → UpdateEnds told u status trial read before after
update_unmade u told first now error status trial read before after none comes same refuses =
    rw (none, same) (unmade_ends told u first now error status before after comes refuses)

-- what holds of an update holds of words that are this one
pub asked_so : {A : Type 0} (asked : Option A) (u : A) (P : A → Type 0) → Some u ≡ asked → P u
    → IfSome asked P
asked_so asked u P is so = rw (sym is) so

-- ---- what an update began with

pub update_unopened : (flash image text : List ℕ) (options : Options) (reason : OpeningNo)
    → OpensUpdate flash image text (Err reason)
    → UpdateOf flash image text options (Err (error_of reason))
update_unopened flash image text options (none.Refused why) fails = ap or_refusal fails
update_unopened flash image text options none.Memory fails = tt
