-- The pages that the cache shows of an application that runs, and where its driver looks.
use Rattle.std.specs.Prelude.{◌≡◌, ℕ, ◌+◌, ◌*◌, ◌/◌, ◌%◌, ◌^◌, ◌<◌, ◌≤◌, List, Option, Some, None}
use Rattle.image_layout.specs.declared.space.Space.{Space}
use Rattle.image_layout.specs.declared.space.Space.TheVariants.{Data, Code}
use Rattle.image_verify.specs.declared.info.SegmentNote.{SegmentNote}
use Rattle.image_verify.specs.Info.{mapped_in}
use Rattle.mmu_map.specs.Place.{pages_in, start_of}
use Rattle.mmu_map.specs.Map.{IsFreeRun, Map, empty, fixed}

-- where the page of an address begins
abbrev pub page_start : ℕ → ℕ
page_start at = at / 65536 * 65536

-- how many pages the load addresses of a segment touch
abbrev pub pages_touched : SegmentNote → ℕ
pages_touched note = (note.load % 65536 + note.length + 65535) / 65536

-- the flash page in which its data begin, of an application that begins here in the flash
abbrev pub first_flash_page : ℕ → SegmentNote → ℕ
first_flash_page offset note = (offset + note.place) / 65536

-- these pages fixed to that flash page and those behind it
abbrev pub with_segment : ℕ → Option SegmentNote → Map → Map
with_segment offset None m = m
with_segment offset (Some note) m =
    fixed m (page_start note.load) (first_flash_page offset note) (pages_touched note)

-- the pages of an application: those of the segment that each space maps
abbrev pub application_pages : ℕ → List SegmentNote → Map
application_pages offset notes =
    with_segment offset (mapped_in Code notes)
    (with_segment offset (mapped_in Data notes) empty)

-- where a segment is loaded, of the first one that there is
abbrev pub first_load : Option SegmentNote → Option SegmentNote → Option ℕ
first_load (Some note) other = Some note.load
first_load None (Some note) = Some note.load
first_load None None = None

-- where the driver looks: at the mapped data, or else at the mapped code
abbrev pub probe_in : List SegmentNote → Option ℕ
probe_in notes = first_load (mapped_in Data notes) (mapped_in Code notes)

-- a segment that its space maps lies in the space, stands in its flash page where it stands in its
-- page, and its data lie in a flash of this size
pub record IsInPlace (size offset : ℕ) (space : Space) (note : SegmentNote) : Type 0 where
  pub from : start_of space ≤ note.load
  pub to : note.load + note.length ≤ start_of space + pages_in space * 65536
  pub long : 4 ≤ note.length
  pub stands : note.load % 65536 ≡ note.place % 65536
  pub inside : offset + note.place + note.length ≤ size

-- so it is of both spaces
pub record AreInPlace (size offset : ℕ) (notes : List SegmentNote) : Type 0 where
  pub aligned : offset % 65536 ≡ 0
  pub placed : (space : Space) (note : SegmentNote) → mapped_in space notes ≡ Some note
      → IsInPlace size offset space note

-- the pages of a segment can be fixed in a map
pub record CanFix (offset : ℕ) (m : Map) (note : SegmentNote) : Type 0 where
  pub free : IsFreeRun m (page_start note.load) (pages_touched note)
  pub flash : first_flash_page offset note + pages_touched note ≤ 256
  pub few : pages_touched note ≤ 64
  pub place : offset + note.place < 2 ^ 32
  pub end : note.load + note.length < 2 ^ 31
