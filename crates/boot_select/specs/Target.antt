-- Which slot an update writes.
use Rattle.std.specs.Prelude.{◌≡◌, ◌≤◌, ℕ, ◌+◌, ◌%◌, nat_lt, Bool, true, ◌&&◌, not, length, Option, Some, None, Ok, if◌then◌else◌}
use Rattle.otadata.specs.declared.entry.Entry.{Entry}
use Rattle.otadata.specs.declared.next.NextEntry.{NextEntry}
use Rattle.otadata.specs.Choice.{Matches, active_of, matches, slot_named}
use Rattle.otadata.specs.Next.{active_seq, next_of, next_sector}
use Rattle.partition_table.specs.declared.app.App.{App}
use Rattle.partition_table.specs.declared.app.App.TheVariants.{Ota, Factory, Test}
use Rattle.partition_table.specs.Layout.{Places}
use Rattle.boot_select.specs.Settled.{is_same, sectors}

-- the slot after the running one, round, of so many; slot 0 after the factory application
abbrev pub slot_after : ℕ → App → ℕ
slot_after slots (Ota slot) = (slot + 1) % slots
slot_after slots Factory = 0
slot_after slots Test = 0

-- whether a sequence is above the active one, or no entry is active
abbrev pub is_above : ℕ → Option ℕ → Bool
is_above seq None = true
is_above seq (Some active) = nat_lt active seq

-- whether the entry would count again, if its state were lost: it matches, is above the active
-- sequence, and does not name the running application
abbrev pub may_revive : ℕ → Entry → Option ℕ → App → Bool
may_revive slots old active running =
    matches old && is_above old.seq active && not (is_same (Ota (slot_named old.seq slots)) running)

-- the slot that an update writes, by the entry that it replaces and the active sequence
abbrev pub target_by : ℕ → Entry → Option ℕ → App → ℕ
target_by slots old active running =
    if may_revive slots old active running then slot_named old.seq slots else slot_after slots running

-- the slot that an update writes, beside the running application
unfoldable pub target_of : Places → Entry → Entry → App → ℕ
target_of layout e0 e1 running =
    target_by (length layout.slots) (sectors e0 e1 (next_sector (active_of e0 e1)))
    (active_seq e0 e1) running

-- what an update writes beside the running application: the target slot, and the next entry for it
pub record IsAim (layout : Places) (entries : ℕ → Entry) (running : App) (slot : ℕ)
    (next : NextEntry) : Type 0 where
  pub target : slot ≡ target_of layout (entries 0) (entries 1) running
  pub next_is : next_of (entries 0) (entries 1) slot (length layout.slots) ≡ Ok next

-- a sequence isn't below the active one, where an entry is active
abbrev pub IsNotBelow : ℕ → Option ℕ → Type 0
IsNotBelow seq None = Unit {0}
IsNotBelow seq (Some active) = active ≤ seq

-- this entry in this sector announces the application that an update has put into this slot: the
-- slot is the target and the sector that of no active entry; the entry matches, is new, and names
-- the slot by a sequence that isn't below the active one
pub record Heralds (layout : Places) (entries : ℕ → Entry) (running : App) (sector slot : ℕ)
    (entry : Entry) : Type 0 where
  pub sector_is : sector ≡ next_sector (active_of (entries 0) (entries 1))
  pub target : slot ≡ target_of layout (entries 0) (entries 1) running
  pub matches : Matches entry
  pub new : entry.state ≡ 0
  pub names : slot_named entry.seq (length layout.slots) ≡ slot
  pub not_below : IsNotBelow entry.seq (active_seq (entries 0) (entries 1))
