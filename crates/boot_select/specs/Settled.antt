-- When an update may begin: no entry waits, and the application that is named is the one that starts.
use Rattle.std.specs.Prelude.{◌⊎◌, ◌≡◌, ◌≢◌, ℕ, zero, suc, ◌==◌, Bool, true, false, Option, Some, None, Result, Ok, Err, if◌then◌else◌}
use Rattle.otadata.specs.declared.entry.Entry.{Entry}
use Rattle.otadata.specs.Choice.{active_of}
use Rattle.partition_table.specs.declared.app.App.{App}
use Rattle.partition_table.specs.declared.app.App.TheVariants.{Ota, Factory, Test}
use Rattle.partition_table.specs.Layout.{Places}
use Rattle.boot_select.specs.declared.settling.Unsettled.{Unsettled}
use Rattle.boot_select.specs.declared.settling.Unsettled.TheVariants.{Waiting, NoApp, Fallback}
use Rattle.boot_select.specs.Choice.{named_of}
use Rattle.boot_select.specs.Candidates.{started_from}

-- the entries by the number of their sector
abbrev pub sectors : Entry → Entry → ℕ → Entry
sectors e0 e1 zero = e0
sectors e0 e1 (suc n) = e1

-- no entry waits: neither has the state PENDING_VERIFY, and the active one isn't new
pub record NoneWaits (e0 e1 : Entry) : Type 0 where
  pub first : e0.state ≢ 1
  pub second : e1.state ≢ 1
  pub active : (y : ℕ) → active_of e0 e1 ≡ Some y → (sectors e0 e1 y).state ≢ 0

-- the entry in this sector as one that waits, where it has this state
abbrev pub waiting_in : ℕ → Entry → ℕ → Option Unsettled
waiting_in sector entry state = if entry.state == state then Some (Waiting sector state) else None

-- the active entry as one that waits, where it is new
abbrev pub waiting_new : Entry → Entry → Option ℕ → Option Unsettled
waiting_new e0 e1 None = None
waiting_new e0 e1 (Some zero) = waiting_in 0 e0 0
waiting_new e0 e1 (Some (suc n)) = waiting_in 1 e1 0

-- the first of these that is something
abbrev pub or_else : Option Unsettled → Option Unsettled → Option Unsettled
or_else None other = other
or_else (Some why) other = Some why

-- the entry that waits: the first one or else the second in PENDING_VERIFY, or else an active one that is new
unfoldable pub waiting_of : Entry → Entry → Option Unsettled
waiting_of e0 e1 =
    or_else (waiting_in 0 e0 1) (or_else (waiting_in 1 e1 1) (waiting_new e0 e1 (active_of e0 e1)))

-- whether two applications are the same
abbrev pub is_same : App → App → Bool
is_same (Ota a) (Ota b) = a == b
is_same (Ota a) Factory = false
is_same (Ota a) Test = false
is_same Factory (Ota b) = false
is_same Factory Factory = true
is_same Factory Test = false
is_same Test (Ota b) = false
is_same Test Factory = false
is_same Test Test = true

-- the application that is named, where it is the one that is started
abbrev pub started_as : App → Option App → Result App Unsettled
started_as named None = Err NoApp
started_as named (Some started) =
    if is_same started named then Ok named else Err (Fallback named started)

-- the application that runs, where no entry waits
abbrev pub settled_by : Option Unsettled → App → Option App → Result App Unsettled
settled_by None named started = started_as named started
settled_by (Some why) named started = Err why

-- the application that runs, or why an update may not begin
unfoldable pub settled_of : Places → (App → Bool) → Entry → Entry → Result App Unsettled
settled_of layout whole e0 e1 =
    settled_by (waiting_of e0 e1) (named_of layout e0 e1)
    (started_from layout whole (named_of layout e0 e1))

-- no entry waits, the entries name this application, and it is the one that is started
pub record Settles (layout : Places) (whole : App → Bool) (e0 e1 : Entry) (app : App) : Type 0 where
  pub none_waits : NoneWaits e0 e1
  pub named : named_of layout e0 e1 ≡ app
  pub started : started_from layout whole (named_of layout e0 e1) ≡ Some app

-- no entry waits, and no application is whole
pub record NoneStarts (layout : Places) (whole : App → Bool) (e0 e1 : Entry) : Type 0 where
  pub none_waits : NoneWaits e0 e1
  pub none_started : started_from layout whole (named_of layout e0 e1) ≡ None

-- no entry waits, the entries name one application, and another one is started
pub record FallsBack (layout : Places) (whole : App → Bool) (e0 e1 : Entry) (named started : App) : Type 0 where
  pub none_waits : NoneWaits e0 e1
  pub named_is : named_of layout e0 e1 ≡ named
  pub started_is : started_from layout whole (named_of layout e0 e1) ≡ Some started
  pub differs : started ≢ named

-- the entry in this sector waits in this state: the first one or else the second has the state
-- PENDING_VERIFY, or else it is the active one, and new
abbrev pub Waits : Entry → Entry → ℕ → ℕ → Type 0
Waits e0 e1 sector state =
    ((sector ≡ 0) × (state ≡ 1) × (e0.state ≡ 1))
    ⊎ (((sector ≡ 1) × (state ≡ 1) × (e0.state ≢ 1) × (e1.state ≡ 1))
    ⊎ ((state ≡ 0) × (e0.state ≢ 1) × (e1.state ≢ 1) × (active_of e0 e1 ≡ Some sector)
    × ((sectors e0 e1 sector).state ≡ 0)))
