-- What an update begins with, or why it may not begin.
use Rattle.std.specs.Prelude.{◌≡◌, ◌%◌, ◌==◌, not, nat_lt, ℕ, List, length, take, drop, slice_get, Option, Some, None, Result, Ok, Err, if◌then◌else◌}
use Rattle.nor_device.specs.FlashSize.{is_flash_size}
use Rattle.partition_table.specs.declared.bad.TableBad.{TableBad}
use Rattle.partition_table.specs.declared.row.Row.{Row}
use Rattle.partition_table.specs.Layout.{Places, layout_in, layout_of}
use Rattle.partition_table.specs.Table.{table_of}
use Rattle.otadata.specs.declared.entry.Entry.{Entry}
use Rattle.otadata.specs.declared.next.NextEntry.{NextEntry}
use Rattle.otadata.specs.declared.next.SeqSpent.{SeqSpent as NoSequence}
use Rattle.otadata.specs.Next.{next_of}
use Rattle.partition_table.specs.declared.app.App.{App}
use Rattle.partition_table.specs.declared.app.App.TheVariants.{Ota}
use Rattle.boot_select.specs.declared.settling.Unsettled.{Unsettled}
use Rattle.boot_select.specs.Boots.{entries_in, images_in}
use Rattle.boot_select.specs.Settled.{is_same}
use Rattle.boot_select.specs.Target.{target_of}
use Rattle.image_verify.specs.Held.{held}
use Rattle.core_script.specs.declared.action.Action.{Action}
use Rattle.core_script.specs.declared.refusal.ScriptNo.{ScriptNo}
use Rattle.core_script.specs.declared.refusal.ScriptNo.TheVariants as no_script
use Rattle.core_script.specs.declared.refusal.ScriptWhy.TheVariants as why
use Rattle.core_script.specs.ScriptText.{script_of_text}
use Rattle.boot_run.specs.declared.aims.Aim.{Aim}
use Rattle.boot_run.specs.declared.aims.AimNo.{AimNo}
use Rattle.boot_run.specs.declared.aims.AimNo.TheVariants as no
use Rattle.boot_run.specs.Aim.{IsAimed, running_of}
use Rattle.duo_run.specs.Both.{HasTable}
use Rattle.update_run.specs.declared.refusal.UpdateNo.{UpdateNo}
use Rattle.update_run.specs.declared.refusal.UpdateNo.TheVariants.{FlashSize, Table, Script, NotSettled, Conflict, SlotFlags, SeqSpent, TooLarge}
use Rattle.update_run.specs.declared.refusal.OpeningNo.{OpeningNo}
use Rattle.update_run.specs.declared.refusal.OpeningNo.TheVariants.{Refused, Memory}
use Rattle.update_run.specs.declared.opening.Opening.{Opening as CodeOpening}

-- what an update begins with: the bytes of its flash and of its image, the actions of its script,
-- and the rows and the layout of the flash's table
pub record Opening : Type 0 where
  pub flash : List ℕ
  pub image : List ℕ
  pub script : List Action
  pub rows : List Row
  pub layout : Places

-- what a value gives, or the refusal
abbrev pub on_ok : {A B : Type 0} → Result A UpdateNo → (A → Result B UpdateNo) → Result B UpdateNo
on_ok (Ok value) next = next value
on_ok (Err why) next = Err why

-- the refusal of a script. That memory ran out is none of a script's, and what stands there plays
-- no part
abbrev pub script_refusal : ScriptNo → UpdateNo
script_refusal (no_script.Bad line reason) = Script line reason
script_refusal no_script.Memory = Script 0 why.Word

-- the actions of a script, or its refusal
abbrev pub script_or_refusal : Result (List Action) ScriptNo → Result (List Action) UpdateNo
script_or_refusal (Ok script) = Ok script
script_or_refusal (Err reason) = Err (script_refusal reason)

-- a layout by a table, or the refusal of that table
abbrev pub layout_or_refusal : Result Places TableBad → Result Places UpdateNo
layout_or_refusal (Ok layout) = Ok layout
layout_or_refusal (Err reason) = Err (Table reason)

-- the rows of a table, or its refusal
abbrev pub rows_or_refusal : Result (List Row) TableBad → Result (List Row) UpdateNo
rows_or_refusal (Ok rows) = Ok rows
rows_or_refusal (Err reason) = Err (Table reason)

-- the rows of a flash's table, or the first reason why it has none: its size, then its table
unfoldable pub rows_in : List ℕ → Result (List Row) UpdateNo
rows_in flash =
    if is_flash_size (length flash)
    then rows_or_refusal (table_of (take 0xC00 (drop 0x8000 flash)) (length flash))
    else Err (FlashSize (length flash))

-- a look for what an update would write that no device refused
abbrev pub IsLook : AimNo → Type 0
IsLook (no.NotSettled reason) = Unit {0}
IsLook (no.Conflict slot) = Unit {0}
IsLook (no.SlotFlags slot flags) = Unit {0}
IsLook (no.SeqSpent seq) = Unit {0}
IsLook (no.TooLarge need limit) = Unit {0}
IsLook no.Device = ⊥
IsLook no.Cut = ⊥

-- the refusal of such a look
abbrev pub IsAimRefusal : AimNo → UpdateNo → Type 0
IsAimRefusal (no.NotSettled reason) why = why ≡ NotSettled reason
IsAimRefusal (no.Conflict slot) why = why ≡ Conflict slot
IsAimRefusal (no.SlotFlags slot flags) why = why ≡ SlotFlags slot flags
IsAimRefusal (no.SeqSpent seq) why = why ≡ SeqSpent seq
IsAimRefusal (no.TooLarge need limit) why = why ≡ TooLarge need limit
IsAimRefusal no.Device why = ⊥
IsAimRefusal no.Cut why = ⊥

-- a refusal, with this length where it is that the image is too long
abbrev pub with_need : ℕ → UpdateNo → UpdateNo
with_need need (TooLarge other limit) = TooLarge need limit
with_need need why = why

-- the next entry for a slot, for an image of so many bytes: where there is one and the image fits
abbrev pub next_for : ℕ → Row → Result NextEntry NoSequence → Result NextEntry UpdateNo
next_for long row (Err spent) = Err (SeqSpent spent.seq)
next_for long row (Ok next) =
    if nat_lt row.size long then Err (TooLarge long row.size) else Ok next

-- the slot has a partition, which is neither encrypted nor readonly, and so on
abbrev pub next_in_slot : ℕ → ℕ → Option Row → Result NextEntry NoSequence
    → Result NextEntry UpdateNo
next_in_slot slot long None next = Err (Conflict slot)
next_in_slot slot long (Some row) next =
    if not (row.flags % 4 == 0) then Err (SlotFlags slot row.flags) else next_for long row next

-- the slot isn't the one that runs, and so on
abbrev pub next_beside : Places → Entry → Entry → App → ℕ → ℕ → Result NextEntry UpdateNo
next_beside layout e0 e1 running long slot =
    if is_same running (Ota slot) then Err (Conflict slot)
    else next_in_slot slot long (slice_get layout.slots slot)
    (next_of e0 e1 slot (length layout.slots))

-- an application runs, and so on
abbrev pub next_by : Places → Entry → Entry → ℕ → Result App Unsettled → Result NextEntry UpdateNo
next_by layout e0 e1 long (Err reason) = Err (NotSettled reason)
next_by layout e0 e1 long (Ok running) =
    next_beside layout e0 e1 running long (target_of layout e0 e1 running)

-- the entry that an update of so many bytes writes on a flash with this layout, or the first reason
-- why it may not begin: what runs, the slot, its flags, the sequence, its size
unfoldable pub next_in : List ℕ → Places → ℕ → Result NextEntry UpdateNo
next_in flash layout long =
    next_by layout (entries_in layout flash 0) (entries_in layout flash 1) long
    (running_of layout (images_in held layout flash) (entries_in layout flash))

-- what an update with these parts begins with, where it may begin
abbrev pub opening_by : List ℕ → List ℕ → List Action → List Row → Places → Result Opening UpdateNo
opening_by flash image script rows layout =
    on_ok (next_in flash layout (length image)) (λ next. Ok (record {
      flash = flash;
      image = image;
      script = script;
      rows = rows;
      layout = layout;
    }))

-- what an update of a flash by an image and a script begins with, or the first reason why it may
-- not begin: the size of the flash, its table, its layout, what runs and what is written
unfoldable pub opening_from : List ℕ → List ℕ → List Action → Result Opening UpdateNo
opening_from flash image script =
    on_ok (rows_in flash) (λ rows.
    on_ok (layout_or_refusal (layout_of rows)) (λ layout.
    opening_by flash image script rows layout))

-- the same by the text of a script, of which that comes first
abbrev pub opening_of : List ℕ → List ℕ → List ℕ → Result Opening UpdateNo
opening_of flash image text =
    on_ok (script_or_refusal (script_of_text text)) (opening_from flash image)

-- what an update will write on a flash with this layout
abbrev pub AimsIn : List ℕ → Places → ℕ → Aim → Type 0
AimsIn flash layout long aim =
    IsAimed layout (images_in held layout flash) (entries_in layout flash) long aim

-- what an update of this image begins with, as the code has it
abbrev pub opening_with : List ℕ → CodeOpening → Opening
opening_with image o = record {
  flash = o.flash.items;
  image = image;
  script = o.script;
  rows = o.table;
  layout = o.layout;
}

-- an update of this image is to be made: layout and aim are those of the flash
pub record IsBegun (image : List ℕ) (o : CodeOpening) : Type 0 where
  pub laid : layout_in o.flash.items ≡ Ok o.layout
  pub table : HasTable o.table o.layout o.flash.items
  pub aims : AimsIn o.flash.items o.layout (length image) o.aim

-- an update of this flash, image and script begins so
pub record BeginsSo (flash image : List ℕ) (script : List Action) (o : CodeOpening) : Type 0 where
  pub given : opening_from flash image script ≡ Ok (opening_with image o)
  pub begun : IsBegun image o

-- it begins so, or it may not begin for this reason
abbrev pub BeginsUpdate : List ℕ → List ℕ → List Action → Result CodeOpening UpdateNo → Type 0
BeginsUpdate flash image script (Ok o) = BeginsSo flash image script o
BeginsUpdate flash image script (Err reason) = opening_from flash image script ≡ Err reason

-- so it is with an update by the text of this script
pub record IsOpened (flash image text : List ℕ) (o : CodeOpening) : Type 0 where
  pub given : opening_of flash image text ≡ Ok (opening_with image o)
  pub begun : IsBegun image o

-- it begins so, or it may not begin for this reason, or memory ran out
abbrev pub OpensUpdate : List ℕ → List ℕ → List ℕ → Result CodeOpening OpeningNo → Type 0
OpensUpdate flash image text (Ok o) = IsOpened flash image text o
OpensUpdate flash image text (Err (Refused reason)) = opening_of flash image text ≡ Err reason
OpensUpdate flash image text (Err Memory) = Unit {0}

-- the actions of a script, unless memory ran out
abbrev pub IsScriptRead : Result (List Action) UpdateNo → Result (List Action) OpeningNo → Type 0
IsScriptRead expected (Ok script) = expected ≡ Ok script
IsScriptRead expected (Err (Refused reason)) = expected ≡ Err reason
IsScriptRead expected (Err Memory) = Unit {0}
