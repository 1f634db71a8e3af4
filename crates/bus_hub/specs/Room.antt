-- The journal as contracts see it, and the room in it.
use Rattle.std.specs.Prelude.{ℕ, ◌+◌, ◌≤◌, List, [], ◌∷◌, ◌++◌, length, slice_index_or}
use Rattle.bus_hub.specs.declared.entry.Entry.{Entry}
use Rattle.bus_hub.specs.declared.journal.Room.{Room}

-- the entries and the bytes that they fetched, and the room of each core
pub record Kept : Type 0 where
  pub entries : List Entry
  pub bytes : List ℕ
  pub left_room : Room
  pub right_room : Room

-- room for nothing
abbrev pub no_room : Room
no_room = record { entries = 0; bytes = 0 }

-- the room of a core in a list of two
abbrev pub room_in : List Room → ℕ → Room
room_in rooms core = slice_index_or rooms core no_room

-- a journal with nothing in it
abbrev pub empty_journal : Room → Room → Kept
empty_journal left right = record { entries = []; bytes = []; left_room = left; right_room = right }

-- so many entries and so many bytes more fit
pub record HasRoom (journal : Kept) (entries bytes : ℕ) : Type 0 where
  pub entries_fit :
      length journal.entries + entries
      ≤ journal.left_room.entries + journal.right_room.entries
  pub bytes_fit :
      length journal.bytes + bytes ≤ journal.left_room.bytes + journal.right_room.bytes

-- the journal with one more entry
abbrev pub with_entry : Kept → Entry → Kept
with_entry journal entry = record journal { entries = journal.entries ++ entry ∷ [] }

-- the journal with more bytes
abbrev pub with_bytes : Kept → List ℕ → Kept
with_bytes journal bytes = record journal { bytes = journal.bytes ++ bytes }
