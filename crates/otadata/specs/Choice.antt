-- Which entry counts, and which slot it names.
use Rattle.std.specs.Prelude.{◌≡◌, ◌≢◌, ℕ, ◌-◌, ◌%◌, ◌<◌, ◌≤◌, ◌==◌, nat_lt, Bool, ◌&&◌, ◌||◌, not, Option, Some, None, if◌then◌else◌}
use Rattle.otadata.specs.declared.entry.Entry.{Entry}
use Rattle.otadata.specs.Crc.{crc}

-- the sequence that an erased sector reads as
abbrev pub erased : ℕ
erased = 0xFFFFFFFF

-- the state of an application that has rejected itself
abbrev pub rejected : ℕ
rejected = 3

-- the state of an application that was given up
abbrev pub given_up : ℕ
given_up = 4

-- the entry's CRC is that of its sequence, and its sequence is neither 0 nor an erased sector's
pub record Matches (e : Entry) : Type 0 where
  pub crc_fits : e.crc ≡ crc e.seq
  pub numbered : e.seq ≢ 0
  pub written : e.seq ≢ erased

-- the entry matches, and its application is neither rejected nor given up
pub record IsValid (e : Entry) : Type 0 where
  pub matches : Matches e
  pub not_rejected : e.state ≢ rejected
  pub not_given_up : e.state ≢ given_up

-- whether the entry matches
unfoldable pub matches : Entry → Bool
matches e = (e.crc == crc e.seq) && not (e.seq == 0) && not (e.seq == erased)

-- whether the entry is valid
unfoldable pub is_valid : Entry → Bool
is_valid e = matches e && not (e.state == rejected) && not (e.state == given_up)

-- neither entry is valid
pub record AreBothInvalid (first second : Entry) : Type 0 where
  pub first_invalid : ¬ IsValid first
  pub second_invalid : ¬ IsValid second

-- the first entry is valid, and the second, if it is valid too, has no greater sequence
pub record FirstIsActive (first second : Entry) : Type 0 where
  pub valid : IsValid first
  pub unexceeded : IsValid second → second.seq ≤ first.seq

-- the second entry is valid and has a greater sequence than the first, if that is valid too
pub record SecondIsActive (first second : Entry) : Type 0 where
  pub valid : IsValid second
  pub exceeds : IsValid first → first.seq < second.seq

-- the number of the active entry: the valid one with the greater sequence, the first on a tie
unfoldable pub active_of : Entry → Entry → Option ℕ
active_of first second =
    if is_valid second && (not (is_valid first) || nat_lt first.seq second.seq) then Some 1
    else (if is_valid first then Some 0 else None)

-- the slot that a sequence names, of so many that take turns
abbrev pub slot_named : ℕ → ℕ → ℕ
slot_named seq slots = (seq - 1) % slots
