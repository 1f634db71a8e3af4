-- What an application rewrites that confirms itself, or rejects itself.
use Rattle.std.specs.Prelude.{◌≡◌, ℕ, ◌==◌, Bool, false, not, Option, Some, None, Result, Ok, Err, if◌then◌else◌}
use Rattle.otadata.specs.declared.entry.Entry.{Entry}
use Rattle.otadata.specs.Choice.{active_of}
use Rattle.partition_table.specs.declared.app.App.{App}
use Rattle.partition_table.specs.Layout.{Places}
use Rattle.boot_select.specs.Choice.{named_of, slot_app}
use Rattle.boot_select.specs.Candidates.{started_from}
use Rattle.boot_select.specs.Settled.{is_same, sectors}
use Rattle.rollback.specs.declared.rewrite.Rewrite.{Rewrite}
use Rattle.rollback.specs.declared.verdict.NoOtaApp.{NoOtaApp}
use Rattle.rollback.specs.declared.verdict.RejectNo.{RejectNo}
use Rattle.rollback.specs.declared.verdict.RejectNo.TheVariants as no
use Rattle.rollback.specs.Rewrite.{changed, restated}

-- the active entry becomes VALID, if it isn't already; there is none, no application to confirm
abbrev pub confirm_by : (ℕ → Entry) → Option ℕ → Result (Option Rewrite) NoOtaApp
confirm_by entries None = Err (record {})
confirm_by entries (Some sector) =
    Ok (if (entries sector).state == 2 then None else Some (restated 2 sector (entries sector)))

-- the rewrite that confirms the active entry
unfoldable pub confirm_of : Entry → Entry → Result (Option Rewrite) NoOtaApp
confirm_of e0 e1 = confirm_by (sectors e0 e1) (active_of e0 e1)

-- the application that would be started after a rewrite
abbrev pub started_after : Places → (App → Bool) → (ℕ → Entry) → Rewrite → Option App
started_after layout whole entries write =
    started_from layout whole (named_of layout (changed write entries 0) (changed write entries 1))

-- whether there is an application, and it is another one
abbrev pub is_other : App → Option App → Bool
is_other app None = false
is_other app (Some started) = not (is_same started app)

-- a rewrite after which another application is started than this one; else there is nothing else
abbrev pub reject_as : Rewrite → App → Option App → Result Rewrite RejectNo
reject_as write app started = if is_other app started then Ok write else Err no.NothingElse

-- the active entry becomes INVALID, if there is one, and another application would be started then
abbrev pub reject_by : Places → (App → Bool) → (ℕ → Entry) → Option ℕ → Result Rewrite RejectNo
reject_by layout whole entries None = Err no.NoOtaApp
reject_by layout whole entries (Some sector) =
    let write = restated 3 sector (entries sector) in
    reject_as write (slot_app layout (entries sector)) (started_after layout whole entries write)

-- the rewrite that rejects the active entry, or why it may not be rejected
unfoldable pub reject_of : Places → (App → Bool) → Entry → Entry → Result Rewrite RejectNo
reject_of layout whole e0 e1 = reject_by layout whole (sectors e0 e1) (active_of e0 e1)

-- the active entry is VALID already
pub record IsConfirmed (e0 e1 : Entry) : Type 0 where
  pub sector : ℕ
  pub active : active_of e0 e1 ≡ Some sector
  pub confirmed : (sectors e0 e1 sector).state ≡ 2

-- an entry is active, and once it is INVALID, no application would be started but that of its slot
pub record HasNothingElse (layout : Places) (whole : App → Bool) (e0 e1 : Entry) : Type 0 where
  pub sector : ℕ
  pub active : active_of e0 e1 ≡ Some sector
  pub nothing_else : (app : App)
      → started_after layout whole (sectors e0 e1) (restated 3 sector (sectors e0 e1 sector)) ≡ Some app
      → app ≡ slot_app layout (sectors e0 e1 sector)
