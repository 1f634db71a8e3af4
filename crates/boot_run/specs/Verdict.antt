-- What a confirmation and a rejection rewrite and answer.
use Rattle.std.specs.Prelude.{◌≡◌, ℕ, Bool, List, [], ◌∷◌, length, Option, Some, None, IfSome, Result, Ok, Err, IfOk}
use Rattle.nor_device.specs.declared.nor.NorFault.{NorFault}
use Rattle.nor_device.specs.declared.nor.NorFault.TheVariants.{Failed, Off}
use Rattle.otadata.specs.declared.entry.Entry.{Entry}
use Rattle.partition_table.specs.declared.app.App.{App}
use Rattle.partition_table.specs.declared.app.App.TheVariants.{Ota}
use Rattle.partition_table.specs.Layout.{Places}
use Rattle.boot_select.specs.Boots.{images_in}
use Rattle.image_verify.specs.Held.{held}
use Rattle.rollback.specs.Boots.{boots_in}
use Rattle.rollback.specs.declared.rewrite.Rewrite.{Rewrite}
use Rattle.rollback.specs.declared.verdict.NoOtaApp.{NoOtaApp}
use Rattle.rollback.specs.declared.verdict.RejectNo.{RejectNo}
use Rattle.rollback.specs.declared.verdict.RejectNo.TheVariants as no
use Rattle.rollback.specs.Verdict.{confirm_of, reject_of}
use Rattle.boot_run.specs.declared.told.Told.{Told}
use Rattle.boot_run.specs.declared.told.ConfirmFault.{ConfirmFault}
use Rattle.boot_run.specs.declared.told.ConfirmFault.TheVariants as confirm
use Rattle.boot_run.specs.declared.told.RejectFault.{RejectFault}
use Rattle.boot_run.specs.declared.told.RejectFault.TheVariants as reject
use Rattle.boot_run.specs.Rewriting.{rewrites}

-- the rewrite, if there is one
abbrev pub one_of : {E : Type 0} → Result (Option Rewrite) E → Result (List Rewrite) E
one_of (Ok None) = Ok []
one_of (Ok (Some write)) = Ok (write ∷ [])
one_of (Err why) = Err why

-- the rewrite as a list
abbrev pub just_one : {E : Type 0} → Result Rewrite E → Result (List Rewrite) E
just_one (Ok write) = Ok (write ∷ [])
just_one (Err why) = Err why

-- the rewrites of a confirmation of these entries, or why there are none
abbrev pub confirmation : (ℕ → Entry) → Result (List Rewrite) NoOtaApp
confirmation entries = one_of (confirm_of (entries 0) (entries 1))

-- the rewrites of a rejection, by which applications are whole, or why there are none
abbrev pub rejection : Places → (App → Bool) → (ℕ → Entry) → Result (List Rewrite) RejectNo
rejection layout whole entries = just_one (reject_of layout whole (entries 0) (entries 1))

-- the rewrites that are made: none where there is a refusal
abbrev pub writes_of : {E : Type 0} → Result (List Rewrite) E → List Rewrite
writes_of (Ok writes) = writes
writes_of (Err why) = []

-- what is told of rewrites: the slot of the application that the entries name, and how many steps
-- the rewrites are
pub record Tells (otadata : ℕ) (named : App) (writes : List Rewrite) (told : Told) : Type 0 where
  pub slot : named ≡ Ota told.slot
  pub steps : told.steps ≡ length (rewrites otadata writes)

-- the answer is the refusal, or tells of the rewrites
abbrev pub Answers : {E : Type 0} → ℕ → App → Result (List Rewrite) E → Result Told E → Type 0
Answers otadata named (Ok writes) (Ok told) = Tells otadata named writes told
Answers otadata named (Ok writes) (Err why) = ⊥
Answers otadata named (Err why) (Ok told) = ⊥
Answers otadata named (Err why) (Err said) = said ≡ why

-- the answer as one of a device: what the entries say, or why a call of the device was refused
abbrev pub confirm_answer : Result Told ConfirmFault → Result (Result Told NoOtaApp) NorFault
confirm_answer (Ok told) = Ok (Ok told)
confirm_answer (Err confirm.NoOtaApp) = Ok (Err (record {}))
confirm_answer (Err confirm.Device) = Err Failed
confirm_answer (Err confirm.Cut) = Err Off

-- the same of a rejection
abbrev pub reject_answer : Result Told RejectFault → Result (Result Told RejectNo) NorFault
reject_answer (Ok told) = Ok (Ok told)
reject_answer (Err reject.NoOtaApp) = Ok (Err no.NoOtaApp)
reject_answer (Err reject.NothingElse) = Ok (Err no.NothingElse)
reject_answer (Err reject.Device) = Err Failed
reject_answer (Err reject.Cut) = Err Off

-- where the device tells its bytes, this application boots now, if its partition held an image
abbrev pub BootsNow : Places → Option (List ℕ) → Option (List ℕ) → App → Type 0
BootsNow layout old new app = IfSome old (λ flash. (image : List ℕ)
    → images_in held layout flash app ≡ Some image
    → (left : List ℕ) × (new ≡ Some left) × (boots_in held layout left ≡ Some (app, image)))

-- the application of the slot that a confirmation tells boots now
abbrev pub BootsTold : Places → Option (List ℕ) → Option (List ℕ)
    → Result (Result Told NoOtaApp) NorFault → Type 0
BootsTold layout old new answer =
    IfOk answer (λ found. IfOk found (λ told. BootsNow layout old new (Ota told.slot)))
