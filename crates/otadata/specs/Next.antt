-- The entry that an update writes, and the sector that it goes to.
use Rattle.std.specs.Prelude.{◌≡◌, ℕ, zero, suc, ◌+◌, ◌-◌, ◌%◌, ◌≤◌, nat_lt, replicate, Option, Some, None, Result, Ok, Err, if◌then◌else◌}
use Rattle.otadata.specs.declared.entry.Entry.{Entry}
use Rattle.otadata.specs.declared.next.NextEntry.{NextEntry}
use Rattle.otadata.specs.declared.next.SeqSpent.{SeqSpent}
use Rattle.otadata.specs.Crc.{crc}
use Rattle.otadata.specs.Choice.{active_of, slot_named}

-- the sequence of the entry with this number, of these two
abbrev pub seq_at : Entry → Entry → Option ℕ → Option ℕ
seq_at first second None = None
seq_at first second (Some zero) = Some first.seq
seq_at first second (Some (suc n)) = Some second.seq

-- the sequence of the active entry
abbrev pub active_seq : Entry → Entry → Option ℕ
active_seq first second = seq_at first second (active_of first second)

-- the sector that the next entry goes to: the one that isn't active, or the first
abbrev pub next_sector : Option ℕ → ℕ
next_sector None = 0
next_sector (Some zero) = 1
next_sector (Some (suc n)) = 0

-- a sequence names the slot, of so many that take turns, and is not below this one
pub record Follows (slots seq slot next : ℕ) : Type 0 where
  pub names : slot_named next slots ≡ slot
  pub not_below : seq ≤ next

-- the next sequence for a slot, of so many that take turns: the least that follows the active one
abbrev pub next_seq : ℕ → Option ℕ → ℕ → ℕ
next_seq slots None slot = slot + 1
next_seq slots (Some seq) slot = seq + (slot + slots - slot_named seq slots) % slots

-- an entry of this sequence that is new: twenty 0xFF as its label, and a CRC that fits
abbrev pub new_entry : ℕ → Entry
new_entry seq = record { seq = seq; label = replicate 20 0xFF; state = 0; crc = crc seq }

-- the entry of this sequence in this sector, where the sequence is one that an entry may have; else
-- the active sequence, for which there is none
abbrev pub next_by : ℕ → Option ℕ → ℕ → Result NextEntry SeqSpent
next_by sector None next = Ok (record { sector = sector; entry = new_entry next })
next_by sector (Some seq) next =
    if nat_lt next 0xFFFFFFFF then Ok (record { sector = sector; entry = new_entry next })
    else Err (record { seq = seq })

-- the next entry for a slot, or that its sequence would be too large
unfoldable pub next_of : Entry → Entry → ℕ → ℕ → Result NextEntry SeqSpent
next_of first second slot slots =
    next_by (next_sector (active_of first second)) (active_seq first second)
    (next_seq slots (active_seq first second) slot)
