-- What a bootloader rewrites before it starts an application.
use Rattle.std.specs.Prelude.{ℕ, zero, suc, ◌==◌, List, [], ◌∷◌, ◌++◌, Option, Some, None, if◌then◌else◌}
use Rattle.otadata.specs.declared.entry.Entry.{Entry}
use Rattle.otadata.specs.Choice.{active_of}
use Rattle.rollback.specs.declared.rewrite.Rewrite.{Rewrite}
use Rattle.rollback.specs.Rewrite.{restated, with_state, written}

-- an entry in PENDING_VERIFY is aborted
abbrev pub abort : ℕ → Entry → List Rewrite
abort sector e = if e.state == 1 then restated 4 sector e ∷ [] else []

-- both entries in PENDING_VERIFY are, the first one before the second
abbrev pub aborts : (ℕ → Entry) → List Rewrite
aborts entries = abort 0 (entries 0) ++ abort 1 (entries 1)

-- an entry that is new begins to wait: it becomes PENDING_VERIFY
abbrev pub begin_in : ℕ → Entry → List Rewrite
begin_in sector e = if e.state == 0 then restated 1 sector e ∷ [] else []

-- of two entries, the one with this number does
abbrev pub begin_by : Entry → Entry → Option ℕ → List Rewrite
begin_by first second None = []
begin_by first second (Some zero) = begin_in 0 first
begin_by first second (Some (suc n)) = begin_in 1 second

-- the active one of two entries does
abbrev pub begin : Entry → Entry → List Rewrite
begin first second = begin_by first second (active_of first second)

-- the rewrites of a boot: entries that wait are aborted, and then an active entry that is new begins
-- to wait
unfoldable pub boot_writes : (ℕ → Entry) → List Rewrite
boot_writes entries =
    aborts entries ++ begin (written (aborts entries) entries 0) (written (aborts entries) entries 1)

-- an entry once those that wait are aborted
abbrev pub given_up : Entry → Entry
given_up e = if e.state == 1 then with_state 4 e else e
