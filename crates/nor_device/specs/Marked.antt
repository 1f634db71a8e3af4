-- A flash with marks: what is stored, and what is read.
use Rattle.std.specs.Prelude.{◌≡◌, ℕ, ◌%◌, ◌≤◌, Bool, List, length}
use Rattle.nor_device.specs.declared.marked_flash.MarkedFlash.TheInside.{Inside}
use Rattle.nor_device.specs.Marks.{as_read}

-- what a contract sees of it
pub record Marked : Type 0 where
  -- the bytes as they read
  pub bytes : List ℕ
  -- for each sector, whether it is marked
  pub marks : List Bool

-- from what is stored to what is read
abbrev pub marked_of : Inside → Marked
marked_of flash = record {
  bytes = as_read flash.marks flash.stored.items;
  marks = flash.marks;
}

-- there is a mark for each sector, and only whole sectors
pub record IsMarkedFlash (flash : Inside) : Type 0 where
  pub whole : length flash.stored.items % 4096 ≡ 0
  pub most : length flash.stored.items ≤ 33554432
  pub marks : length flash.marks ≡ 8192
