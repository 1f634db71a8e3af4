-- What a request asks for, and the first reason against it.
use Rattle.std.specs.Prelude.{ℕ, ◌+◌, ◌*◌, ◌/◌, ◌%◌, ◌==◌, ◌&&◌, ◌||◌, not, nat_le, nat_lt, min, max, Bool, false, if◌then◌else◌, List, [], ◌∷◌, length, drop, slice_index, bit_xor, Option, Some, None, Result, Ok, Err, ◌≡◌, ◌≤◌}
use Rattle.std.specs.List.{list_all, list_any}
use Rattle.byteorder.specs.Endian.{little_number}
use Rattle.nor_device.specs.declared.step.Step.{Step}
use Rattle.partition_table.specs.declared.row.Row.{Row}
use Rattle.flash_steps.specs.Rules.{is_encrypted}
use Rattle.flash_steps.specs.Steps.{erase_steps, write_steps}
use Rattle.slip_loader.specs.declared.request.Begin.{Begin}
use Rattle.slip_loader.specs.declared.plan.Begun.{Begun}
use Rattle.slip_loader.specs.declared.plan.Plan.{Plan}
use Rattle.slip_loader.specs.declared.plan.Work.{Work}
use Rattle.slip_loader.specs.declared.plan.Work.TheVariants.{Nothing, Erase, Program, Digest}
use Rattle.slip_loader.specs.declared.plan.Refusal.{Refusal}
use Rattle.slip_loader.specs.declared.plan.Refusal.TheVariants.{Form, Bounds, Checksum, Encrypted, NotOpen, Order}

-- ---- the fields of a request

-- its command
abbrev pub command_of : List ℕ → ℕ
command_of frame = slice_index frame 1

-- its checksum field
abbrev pub checksum_of : List ℕ → ℕ
checksum_of frame = little_number 4 (drop 4 frame)

-- the n-th number of its data
abbrev pub field_of : List ℕ → ℕ → ℕ
field_of frame n = little_number 4 (drop (8 + 4 * n) frame)

-- the block behind the four numbers of a FLASH_DATA
abbrev pub block_of : List ℕ → List ℕ
block_of frame = drop 24 frame

-- the numbers of a FLASH_BEGIN
unfoldable pub begin_of : List ℕ → Begin
begin_of frame = record {
  size = field_of frame 0;
  blocks = field_of frame 1;
  block_size = field_of frame 2;
  offset = field_of frame 3;
}

-- whether the data of a request begin as those of a SYNC
unfoldable pub begins_sync : List ℕ → Bool
begins_sync frame =
    (slice_index frame 8 == 0x07) && (slice_index frame 9 == 0x07)
    && (slice_index frame 10 == 0x12) && (slice_index frame 11 == 0x20)

-- whether they are those of a SYNC, which 0x55 fills
unfoldable pub is_sync : List ℕ → Bool
is_sync frame =
    (length frame == 44) && begins_sync frame && list_all (λ byte. byte == 0x55) (drop 12 frame)

-- the exclusive or of a number with all bytes
abbrev pub xor_from : ℕ → List ℕ → ℕ
xor_from sum [] = sum
xor_from sum (byte ∷ bytes) = xor_from (bit_xor sum byte) bytes

-- the checksum of a block
abbrev pub block_sum : List ℕ → ℕ
block_sum block = xor_from 0xEF block

-- ---- plans

-- so many bytes, rounded up to whole sectors
abbrev pub sectors_of : ℕ → ℕ
sectors_of len = 4096 * ((len + 4095) / 4096)

-- the bytes of the sectors that a FLASH_BEGIN erases
abbrev pub region_of : Begin → ℕ
region_of begin = sectors_of (begin.blocks * begin.block_size)

-- whether a FLASH_BEGIN is within its bounds in a flash of this size
unfoldable pub is_bounded : ℕ → Begin → Bool
is_bounded size begin =
    (begin.block_size % 256 == 0) && nat_le 256 begin.block_size && nat_le begin.block_size 4096
    && nat_le begin.size (begin.blocks * begin.block_size) && (begin.offset % 4096 == 0)
    && nat_le (begin.offset + region_of begin) size

-- whether a range has an address in an encrypted partition
unfoldable pub meets_encrypted : ℕ → ℕ → Row → Bool
meets_encrypted at len row =
    is_encrypted row && nat_lt (max at row.offset) (min (at + len) (row.offset + row.size))

-- whether a range has an address in an encrypted partition of a table; without one none is encrypted
abbrev pub meets_any : ℕ → ℕ → Option (List Row) → Bool
meets_any at len None = false
meets_any at len (Some rows) = list_any (meets_encrypted at len) rows

-- what an accepted FLASH_BEGIN opens: its block 0 is awaited
abbrev pub opened_by : Begin → Begun
opened_by begin = record {
  at = begin.offset;
  blocks = begin.blocks;
  block_size = begin.block_size;
  next = 0;
}

-- a FLASH_BEGIN of sixteen bytes
unfoldable pub begin_planned : ℕ → Option (List Row) → Begin → Result Plan Refusal
begin_planned size table begin =
    if not (is_bounded size begin) then Err Bounds
    else (if meets_any begin.offset (region_of begin) table then Err Encrypted
    else Ok (record {
      work = Erase begin.offset (region_of begin);
      begun = Some (opened_by begin);
    }))

-- the next block is awaited
abbrev pub next_of : Begun → Begun
next_of begun = record begun { next = begun.next + 1 }

-- a block of this number, length and checksum while a begin is open. The truth value says whether
-- the checksum is that of the block
unfoldable pub block_planned : Begun → ℕ → ℕ → Bool → Result Plan Refusal
block_planned begun number length summed =
    if not (number == begun.next) || nat_le begun.blocks begun.next then Err Order
    else (if not (length == begun.block_size) then Err Bounds
    else (if not summed then Err Checksum
    else Ok (record {
      work = Program (begun.at + begun.next * begun.block_size);
      begun = Some (next_of begun);
    })))

-- the same where none may be open
abbrev pub data_planned : Option Begun → ℕ → ℕ → Bool → Result Plan Refusal
data_planned None number length summed = Err NotOpen
data_planned (Some begun) number length summed = block_planned begun number length summed

-- a FLASH_END of four bytes
abbrev pub end_planned : Option Begun → Result Plan Refusal
end_planned None = Err NotOpen
end_planned (Some begun) =
    if nat_lt begun.next begun.blocks then Err NotOpen
    else Ok (record { work = Nothing; begun = None })

-- a SPI_FLASH_MD5 of sixteen bytes
unfoldable pub digest_planned : ℕ → Option Begun → ℕ → ℕ → Result Plan Refusal
digest_planned size begun at len =
    if nat_le (at + len) size then Ok (record { work = Digest at len; begun = begun })
    else Err Bounds

-- SYNC
unfoldable pub plan_sync : Option Begun → List ℕ → Result Plan Refusal
plan_sync begun frame =
    if is_sync frame then Ok (record { work = Nothing; begun = begun }) else Err Form

-- FLASH_BEGIN
unfoldable pub plan_begin : ℕ → Option (List Row) → List ℕ → Result Plan Refusal
plan_begin size table frame =
    if length frame == 24 then begin_planned size table (begin_of frame) else Err Form

-- FLASH_DATA: its length field is that of the block
unfoldable pub plan_data : Option Begun → List ℕ → Result Plan Refusal
plan_data begun frame =
    if nat_le 24 (length frame) && (field_of frame 0 + 24 == length frame)
    then data_planned begun (field_of frame 1) (field_of frame 0)
    (checksum_of frame == block_sum (block_of frame))
    else Err Form

-- FLASH_END
unfoldable pub plan_end : Option Begun → List ℕ → Result Plan Refusal
plan_end begun frame = if length frame == 12 then end_planned begun else Err Form

-- SPI_FLASH_MD5
unfoldable pub plan_digest : ℕ → Option Begun → List ℕ → Result Plan Refusal
plan_digest size begun frame =
    if length frame == 24 then digest_planned size begun (field_of frame 0) (field_of frame 1)
    else Err Form

-- what a request asks for, by the size of the flash, the table and the open begin, or the first
-- reason against it
unfoldable pub plan_of : ℕ → Option (List Row) → Option Begun → List ℕ → Result Plan Refusal
plan_of size table begun frame =
    if command_of frame == 0x08 then plan_sync begun frame
    else (if command_of frame == 0x02 then plan_begin size table frame
    else (if command_of frame == 0x03 then plan_data begun frame
    else (if command_of frame == 0x04 then plan_end begun frame
    else (if command_of frame == 0x13 then plan_digest size begun frame
    else Err Form))))

-- the steps of a work; the block is that of the request
abbrev pub work_steps : Work → List ℕ → List Step
work_steps Nothing block = []
work_steps (Erase at len) block = erase_steps at len
work_steps (Program at) block = write_steps at block
work_steps (Digest at len) block = []

-- the steps of a request
abbrev pub plan_steps : Result Plan Refusal → List ℕ → List Step
plan_steps (Ok plan) frame = work_steps plan.work (block_of frame)
plan_steps (Err why) frame = []

-- what is open behind a request: a refused one leaves it
abbrev pub begun_by : Result Plan Refusal → Option Begun → Option Begun
begun_by (Ok plan) begun = plan.begun
begun_by (Err why) begun = begun

-- a begin is open in a flash of this size: its blocks lie in whole sectors of it
pub record IsBegun (size : ℕ) (begun : Begun) : Type 0 where
  pub next : begun.next ≤ begun.blocks
  pub block : begun.block_size ≤ 4096
  pub inside : begun.at + begun.blocks * begun.block_size ≤ size

-- so is one that is open, if one is
abbrev pub AreBegun : ℕ → Option Begun → Type 0
AreBegun size None = Unit {0}
AreBegun size (Some begun) = IsBegun size begun

-- a work lies in a flash of this size; so many bytes has the block
abbrev pub LiesIn : ℕ → ℕ → Work → Type 0
LiesIn size block Nothing = Unit {0}
LiesIn size block (Erase at len) = (at % 4096 ≡ 0) × (len % 4096 ≡ 0) × (at + len ≤ size)
LiesIn size block (Program at) = at + block ≤ size
LiesIn size block (Digest at len) = at + len ≤ size
