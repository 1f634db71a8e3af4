-- An entry of the OTA data and its 32 bytes.
use Rattle.std.specs.Prelude.{◌≡◌, ◌<◌, ◌^◌, ◌+◌, ◌*◌, ℕ, List, ◌++◌, length, take, drop, All}
use Rattle.byteorder.specs.Endian.{little_number, little_bytes}
use Rattle.otadata.specs.declared.entry.Entry.{Entry}

-- the entry that the first 32 bytes are: sequence, label, state and CRC
unfoldable pub entry_of : List ℕ → Entry
entry_of bytes = record {
  seq = little_number 4 bytes;
  label = take 20 (drop 4 bytes);
  state = little_number 4 (drop 24 bytes);
  crc = little_number 4 (drop 28 bytes);
}

-- the 32 bytes of an entry
unfoldable pub entry_bytes : Entry → List ℕ
entry_bytes e = little_bytes 4 e.seq ++ e.label ++ little_bytes 4 e.state ++ little_bytes 4 e.crc

-- each field has the size that it has in the bytes
pub record IsSized (e : Entry) : Type 0 where
  pub seq : e.seq < 2 ^ 32
  pub label : length e.label ≡ 20
  pub state : e.state < 2 ^ 32
  pub crc : e.crc < 2 ^ 32

-- an entry as 32 bytes hold it: each field has its size, and the label is made of bytes
pub record IsStored (e : Entry) : Type 0 where
  pub sized : IsSized e
  pub label : All (λ b. b < 256) e.label

-- the entry of this sector of the OTA data, which begin at this place of a flash
abbrev pub entry_in : List ℕ → ℕ → ℕ → Entry
entry_in flash otadata sector = entry_of (take 32 (drop (otadata + 4096 * sector) flash))
