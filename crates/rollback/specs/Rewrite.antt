-- A rewrite of an entry of the OTA data, and the entries after it.
use Rattle.std.specs.Prelude.{◌≡◌, ◌<◌, ℕ, ◌==◌, List, [], ◌∷◌, if◌then◌else◌}
use Rattle.otadata.specs.declared.entry.Entry.{Entry}
use Rattle.rollback.specs.declared.rewrite.Rewrite.{Rewrite}

-- the entry in another state: sequence, label and CRC stay
abbrev pub with_state : ℕ → Entry → Entry
with_state state e = record e { state = state }

-- the rewrite that gives the entry of this sector another state
abbrev pub restated : ℕ → ℕ → Entry → Rewrite
restated state sector e = record { sector = sector; entry = with_state state e }

-- the entries after a rewrite, by the number of their sector
abbrev pub changed : Rewrite → (ℕ → Entry) → ℕ → Entry
changed write entries sector = if sector == write.sector then write.entry else entries sector

-- the entries after rewrites, one after the other
abbrev pub written : List Rewrite → (ℕ → Entry) → ℕ → Entry
written [] entries = entries
written (write ∷ writes) entries = written writes (changed write entries)

-- each of these rewrites gives the entry of its sector another state, as that entry stands when its
-- turn comes
abbrev pub AreRestated : List Rewrite → (ℕ → Entry) → Type 0
AreRestated [] entries = Unit {0}
AreRestated (write ∷ writes) entries =
    (write.sector < 2) × (write ≡ restated write.entry.state write.sector (entries write.sector))
    × AreRestated writes (changed write entries)
