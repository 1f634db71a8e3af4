-- What an update will write, or why it may not begin.
use Rattle.std.specs.Prelude.{List, ◌≡◌, ◌≢◌, ◌≤◌, ℕ, ◌%◌, ◌==◌, not, nat_lt, if◌then◌else◌, length, slice_get, Option, Some, None, Result, Ok, Err}
use Rattle.nor_device.specs.declared.nor.NorFault.{NorFault}
use Rattle.nor_device.specs.declared.nor.NorFault.TheVariants.{Failed, Off}
use Rattle.partition_table.specs.declared.app.App.{App}
use Rattle.partition_table.specs.declared.app.App.TheVariants.{Ota}
use Rattle.partition_table.specs.declared.row.Row.{Row}
use Rattle.partition_table.specs.Layout.{Places}
use Rattle.otadata.specs.declared.entry.Entry.{Entry}
use Rattle.otadata.specs.declared.next.NextEntry.{NextEntry}
use Rattle.otadata.specs.declared.next.SeqSpent.{SeqSpent}
use Rattle.otadata.specs.Next.{next_of}
use Rattle.boot_select.specs.declared.settling.Unsettled.{Unsettled}
use Rattle.boot_select.specs.Choice.{named_of}
use Rattle.boot_select.specs.Settled.{is_same, settled_by, settled_of, waiting_of}
use Rattle.boot_select.specs.Target.{IsAim, target_of}
use Rattle.boot_select.specs.Boots.{Images, has_image}
use Rattle.rollback.specs.Boots.{IsSettled}
use Rattle.image_verify.specs.Info.{IsInfo}
use Rattle.image_verify.specs.declared.info.ImageInfo.{ImageInfo}
use Rattle.boot_run.specs.declared.aims.Aim.{Aim}
use Rattle.boot_run.specs.declared.aims.AimNo.{AimNo}
use Rattle.boot_run.specs.declared.aims.AimNo.TheVariants as no
use Rattle.boot_run.specs.declared.aims.Unfit.{Unfit}
use Rattle.boot_run.specs.declared.aims.Unfit.TheVariants.{NotSettled, Conflict, SlotFlags, SeqSpent as Spent, TooLarge}
use Rattle.boot_run.specs.Verified.{HasInfo}

-- an image of so many bytes for this slot: the next entry for it, where there is one and the image
-- fits
abbrev pub aim_next : ℕ → Row → Result NextEntry SeqSpent → Result NextEntry Unfit
aim_next long row (Err spent) = Err (Spent spent.seq)
aim_next long row (Ok next) = if nat_lt row.size long then Err (TooLarge long row.size) else Ok next

-- the slot is neither encrypted nor readonly, and so on; each slot that is a target has a partition
abbrev pub aim_in : ℕ → ℕ → Option Row → Result NextEntry SeqSpent → Result NextEntry Unfit
aim_in slot long None next = Err (Conflict slot)
aim_in slot long (Some row) next =
    if not (row.flags % 4 == 0) then Err (SlotFlags slot row.flags) else aim_next long row next

-- the slot isn't the one that runs, and so on
abbrev pub aim_at : Places → Entry → Entry → App → ℕ → ℕ → Result NextEntry Unfit
aim_at layout e0 e1 running long slot =
    if is_same running (Ota slot) then Err (Conflict slot)
    else aim_in slot long (slice_get layout.slots slot) (next_of e0 e1 slot (length layout.slots))

-- an application runs, and so on: the next entry for the slot that is written beside it, or the
-- first reason why an update of so many bytes may not begin
abbrev pub aim_by : Places → Entry → Entry → ℕ → Result App Unsettled → Result NextEntry Unfit
aim_by layout e0 e1 long (Err why) = Err (NotSettled why)
aim_by layout e0 e1 long (Ok running) =
    aim_at layout e0 e1 running long (target_of layout e0 e1 running)

-- the application that runs, by the entries and the images, or why no update may begin
abbrev pub running_of : Places → Images → (ℕ → Entry) → Result App Unsettled
running_of layout images entries = settled_of layout (has_image images) (entries 0) (entries 1)

-- an update of so many bytes may begin: what runs, what is told of its image, and what is written
pub record IsAimed (layout : Places) (images : Images) (entries : ℕ → Entry) (long : ℕ)
    (aim : Aim) : Type 0 where
  pub runs : running_of layout images entries ≡ Ok aim.running
  pub info : HasInfo (images aim.running) aim.info
  pub slot : aim.slot ≡ target_of layout (entries 0) (entries 1) aim.running
  pub next : aim_at layout (entries 0) (entries 1) aim.running long aim.slot ≡ Ok aim.next
  pub length : aim.length ≡ long

-- what an update of so many bytes will write, or the first reason why it may not begin
abbrev pub AimsAt : Places → Images → (ℕ → Entry) → ℕ → Result Aim Unfit → Type 0
AimsAt layout images entries long (Ok aim) = IsAimed layout images entries long aim
AimsAt layout images entries long (Err why) =
    aim_by layout (entries 0) (entries 1) long (running_of layout images entries) ≡ Err why

-- the answer as one of a device: what the flash says, or why a call of the device was refused
abbrev pub aim_answer : Result Aim AimNo → Result (Result Aim Unfit) NorFault
aim_answer (Ok aim) = Ok (Ok aim)
aim_answer (Err (no.NotSettled why)) = Ok (Err (NotSettled why))
aim_answer (Err (no.Conflict slot)) = Ok (Err (Conflict slot))
aim_answer (Err (no.SlotFlags slot flags)) = Ok (Err (SlotFlags slot flags))
aim_answer (Err (no.SeqSpent seq)) = Ok (Err (Spent seq))
aim_answer (Err (no.TooLarge need limit)) = Ok (Err (TooLarge need limit))
aim_answer (Err no.Device) = Err Failed
aim_answer (Err no.Cut) = Err Off

-- the application that was started
abbrev pub app_started : Option (App × ImageInfo) → Option App
app_started None = None
app_started (Some started) = Some started.0

-- an update may begin beside the application that was started
pub record IsAimedBy (layout : Places) (e0 e1 : Entry) (started : Option (App × ImageInfo))
    (long : ℕ) (aim : Aim) : Type 0 where
  pub runs : settled_by (waiting_of e0 e1) (named_of layout e0 e1) (app_started started)
      ≡ Ok aim.running
  pub info : started ≡ Some (aim.running, aim.info)
  pub slot : aim.slot ≡ target_of layout e0 e1 aim.running
  pub next : aim_at layout e0 e1 aim.running long aim.slot ≡ Ok aim.next
  pub length : aim.length ≡ long

-- an update may begin so: the running application is settled and is told of, the slot is another
-- one, which may be written and holds so many bytes, and the entry is the next one for it
pub record Begins (layout : Places) (images : Images) (entries : ℕ → Entry)
    (aim : Aim) : Type 0 where
  pub image : List ℕ
  pub settled : IsSettled layout images entries aim.running image
  pub told : IsInfo image aim.info
  pub aims : IsAim layout entries aim.running aim.slot aim.next
  pub apart : aim.running ≢ Ota aim.slot
  pub row : Row
  pub row_is : slice_get layout.slots aim.slot ≡ Some row
  pub flags : row.flags % 4 ≡ 0
  pub fits : aim.length ≤ row.size
