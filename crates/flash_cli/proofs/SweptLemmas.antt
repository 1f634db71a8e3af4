-- How a call with a sweep ends, from what was read, made and pushed.
use mathlib.Core.Logic.{◌⊎◌, inl, inr}
use Rattle.std.proofs.Common.{◌≡◌, ℕ, Bool, true, false, List, [], ◌∷◌, take, drop, Option, Some, None, Result, Ok, Err, refl, sym}
use Rattle.std.specs.Prelude.{◌&&◌, if◌then◌else◌, IfSome, String, string_bytes, codes}
use Rattle.std.specs.declared.alloc.Global.{Global}
use Rattle.pipe_ends.specs.Store.{Files}
use Rattle.power_cut.specs.declared.swept.Sweep.{Sweep as Swept}
use Rattle.flash_text.specs.declared.refusal.Refusal.{Refusal}
use Rattle.flash_text.specs.declared.refusal.Refusal.TheVariants.{Absent as AbsentFile}
use Rattle.flash_text.specs.SweepText.{sweep_text}
use Rattle.power_cut.specs.declared.legs.LegEnd.{LegEnd}
use Rattle.update_run.specs.declared.refusal.OpeningNo.{OpeningNo}
use Rattle.update_run.specs.declared.refusal.OpeningNo.TheVariants as none
use Rattle.update_run.specs.Opening.{Opening}
use Rattle.flash_cli.specs.Unbegun.{error_of, sweep_opening_or_refusal}
use Rattle.flash_cli.specs.Updating.{status_by}
use Rattle.flash_cli.specs.declared.command.Kind.{Kind}
use Rattle.flash_cli.specs.declared.command.Kind.TheVariants as kinds
use Rattle.flash_cli.specs.declared.error.CommandError.{CommandError}
use Rattle.flash_cli.specs.declared.error.CommandError.TheVariants.{Absent, Refused as RefusedBy, Failed}
use Rattle.flash_cli.specs.declared.error.Failure.TheVariants.{Store, Memory as OutOfMemory}
use Rattle.flash_cli.specs.declared.status.Status.{Status}
use Rattle.flash_cli.specs.declared.status.Status.TheVariants.{Done, Usage, Refused, StoreFault, DeviceFault, PowerCut, Memory, SinkFault}
use Rattle.flash_cli.specs.Answer.{Outcome, refused_outcome}
use Rattle.flash_cli.specs.Command.{Row, cores_by, fits, row_of, rows, words_of}
use Rattle.flash_cli.specs.Reading.{TellsAnswer}
use Rattle.flash_cli.specs.Served.{IsPushed, IsRefusal, IsSilent, Refuses}
use Rattle.flash_cli.specs.Status.{IsDevices}
use Rattle.flash_cli.specs.SweepWords.{Sweep, asked_sweep, sweep_made, sweep_of}
use Rattle.flash_cli.specs.Sweeping.{IsSweepEnd, IsSweepOutcome, SweepComes, SweepEnds, SweepOf, SweepTells, swept_outcome}
use Rattle.update_run.specs.Sweeping.{IsSwept, IsUnswept, OpensSweep}
use Rattle.flash_cli.specs.UpdateWords.{Update, update_made, update_of}

-- ---- words are not both an update and a sweep

made_once : (kind : Kind) (names options : List (List ℕ)) (u : Update)
    → update_made kind names options ≡ Some u → sweep_made kind names options ≡ None
made_once kinds.Choose names options u is = refl
made_once kinds.Boot names options u is = refl
made_once kinds.Confirm names options u is = refl
made_once kinds.Reject names options u is = refl
made_once kinds.ImageMake names options u is = refl
made_once kinds.ImageCheck names options u is = refl
made_once kinds.TableMake names options u is = refl
made_once kinds.TableShow names options u is = refl
made_once kinds.FlashMake names options u is = refl
made_once kinds.Update names options u is = refl
made_once kinds.Sweep names options u is = absurd (cc)

if_once : {A B : Type 0} (b : Bool) (x : Option A) (y : Option B) (u : A)
    → (x ≡ Some u → y ≡ None) → (if b then x else None) ≡ Some u → (if b then y else None) ≡ None
if_once true x y u once is = once is
if_once false x y u once is = refl

by_once : (found : Option Row) (words : List (List ℕ)) (u : Update)
    → cores_by update_made found words ≡ Some u → cores_by sweep_made found words ≡ None
by_once None words u is = refl
by_once (Some row) words u is =
    if_once (row.cores && fits row words) _ _ u
    (made_once row.kind (take row.names words) (drop row.names words) u) is

words_once : (words : List (List ℕ)) (u : Update) → update_of words ≡ Some u
    → sweep_of words ≡ None
words_once [] u is = refl
words_once (word ∷ words) u is = by_once (row_of rows word) words u is

-- so words that are an update end as no sweep
pub no_sweep : (words : List (String Global)) (u : Update) (P : Sweep → Type 0)
    → Some u ≡ update_of (words_of words) → IfSome (asked_sweep words) P
no_sweep words u P is = rw (words_once (words_of words) u (sym is)) tt

-- ---- what a sweep began with, and what it comes to

-- it may not begin
pub unopened : (tear : ℕ) (flash image text : List ℕ) (reason : OpeningNo)
    → OpensSweep flash image text (Err reason)
    → SweepOf tear (sweep_opening_or_refusal flash image text) (Err (error_of reason))
unopened tear flash image text (none.Refused why) fails = rw fails refl
unopened tear flash image text none.Memory fails = tt

pub swept_comes : (tear : ℕ) (begins : Result Opening Refusal) (o : Opening) (s : Swept)
    → begins ≡ Ok o → IsSwept tear o s → SweepComes tear (Ok begins) (swept_outcome s)
swept_comes tear begins o s begun is =
    rw begun (inl (record { swept = s; is = is; outcome_is = refl }))

pub unswept_comes : (tear : ℕ) (begins : Result Opening Refusal) (o : Opening) (end : LegEnd)
    (why : Refusal) → begins ≡ Ok o → IsUnswept tear o end → status_by end ≡ Refused why
    → SweepComes tear (Ok begins) (refused_outcome (codes "") why)
unswept_comes tear begins o end why begun is status =
    rw begun (inr (record { end = end; is = is; why = why; why_is = status; outcome_is = refl }))

-- ---- what was read

-- what a sweep of the files that were read came to, the sweep of the words came to
pub sweep_came : (told : Option Files) (s : Sweep) (first now : ℕ) (flash image text : List ℕ)
    (result : Result Swept CommandError) → TellsAnswer told s.flash (Some flash)
    → TellsAnswer told s.image (Some image) → TellsAnswer told s.script (Some text)
    → SweepOf s.tear (sweep_opening_or_refusal flash image text) result
    → IsSweepEnd told s first now result
sweep_came told s first now flash image text result a b c is = by result is
  where
    comes : (outcome : Outcome)
        → SweepComes s.tear (Ok (sweep_opening_or_refusal flash image text)) outcome
        → IsSweepOutcome told s outcome
    comes outcome so = record {
      result = Ok (sweep_opening_or_refusal flash image text);
      comes = (Some flash, (a, (Some image, (b, (Some text, (c, refl))))));
      is = so;
    }

    by : (result : Result Swept CommandError)
        → SweepOf s.tear (sweep_opening_or_refusal flash image text) result
        → IsSweepEnd told s first now result
    by (Ok swept) so = comes (swept_outcome swept) so
    by (Err (RefusedBy why)) so = comes (refused_outcome (codes "") why) so
    by (Err (Absent file name)) so = absurd so
    by (Err (Failed Store)) so = absurd so
    by (Err (Failed OutOfMemory)) so = tt

-- ---- what was pushed

made_tells : (told : Option Files) (s : Sweep) (swept : Swept) (status : Status)
    (before after : Option (List ℕ)) → IsSweepOutcome told s (swept_outcome swept)
    → IsSilent status before after ⊎ IsPushed (sweep_text swept) Done status before after
    → SweepTells told s status before after
made_tells told s swept status before after comes (inl (none, silent)) = rw none (inl silent)
made_tells told s swept status before after comes (inr (inl (work, text))) =
    rw work (record { outcome = swept_outcome swept; comes = comes; ends = refl; text = text })
made_tells told s swept status before after comes (inr (inr (inl fault, text))) =
    rw fault (record { outcome = swept_outcome swept; comes = comes; text = text })
made_tells told s swept status before after comes (inr (inr (inr none, text))) =
    rw none (inr (record { outcome = swept_outcome swept; comes = comes; text = text }))

refused_tells : (told : Option Files) (s : Sweep) (name : List ℕ) (why : Refusal)
    (status : Status) (before after : Option (List ℕ))
    → IsSweepOutcome told s (refused_outcome name why)
    → IsRefusal name why status before after → SweepTells told s status before after
refused_tells told s name why status before after comes (inl (none, silent)) = rw none (inl silent)
refused_tells told s name why status before after comes (inr (inl (work, text))) =
    rw work (record { outcome = refused_outcome name why; comes = comes; ends = refl; text = text })
refused_tells told s name why status before after comes (inr (inr (inl fault, text))) =
    rw fault (record { outcome = refused_outcome name why; comes = comes; text = text })
refused_tells told s name why status before after comes (inr (inr (inr none, text))) =
    rw none (inr (record { outcome = refused_outcome name why; comes = comes; text = text }))

unmade_tells : (told : Option Files) (s : Sweep) (first now : ℕ) (error : CommandError)
    (status : Status) (before after : Option (List ℕ))
    → IsSweepEnd told s first now (Err error) → Refuses error status before after
    → SweepTells told s status before after
unmade_tells told s first now (Absent file name) status before after comes refuses =
    refused_tells told s (string_bytes name) (AbsentFile file) status before after
    (record { result = Err (record { file = file; name = string_bytes name }); comes = comes; is = refl })
    refuses
unmade_tells told s first now (RefusedBy why) status before after comes refuses =
    refused_tells told s (codes "") why status before after comes refuses
unmade_tells told s first now (Failed Store) status before after counted (fault, silent) =
    rw fault silent
unmade_tells told s first now (Failed OutOfMemory) status before after counted (none, silent) =
    rw none (inl silent)

-- a call with a sweep ended so: it was made, or not
pub sweep_made_ends : (told : Option Files) (s : Sweep) (swept : Swept) (status : Status)
    (put : Option Files) (before after : Option (List ℕ))
    → IsSweepOutcome told s (swept_outcome swept) → put ≡ told
    → IsSilent status before after ⊎ IsPushed (sweep_text swept) Done status before after
    → SweepEnds told s status put before after
sweep_made_ends told s swept status put before after comes same pushed = record {
  unput = same;
  tells = made_tells told s swept status before after comes pushed;
}

pub sweep_unmade_ends : (told : Option Files) (s : Sweep) (first now : ℕ) (error : CommandError)
    (status : Status) (put : Option Files) (before after : Option (List ℕ))
    → IsSweepEnd told s first now (Err error) → put ≡ told → Refuses error status before after
    → SweepEnds told s status put before after
sweep_unmade_ends told s first now error status put before after comes same refuses = record {
  unput = same;
  tells = unmade_tells told s first now error status before after comes refuses;
}

-- and not by a device
pub sweep_no_device : (told : Option Files) (s : Sweep) (status : Status) (put : Option Files)
    (before after : Option (List ℕ)) → SweepEnds told s status put before after
    → IsDevices status → ⊥
sweep_no_device told s Done put before after ends device = device
sweep_no_device told s Usage put before after ends device = device
sweep_no_device told s (Refused why) put before after ends device = device
sweep_no_device told s StoreFault put before after ends device = device
sweep_no_device told s (DeviceFault step) put before after ends device = ends.tells
sweep_no_device told s (PowerCut step) put before after ends device = ends.tells
sweep_no_device told s Memory put before after ends device = device
sweep_no_device told s SinkFault put before after ends device = device
