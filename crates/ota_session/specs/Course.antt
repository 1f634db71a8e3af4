-- The duty of an update: what it is for, how far the driver has come, what each core may do, and
-- which flashes are good meanwhile.
use Rattle.std.specs.Prelude.{◌≡◌, ◌≢◌, ◌==◌, ℕ, List, [], ◌∷◌, ◌++◌, drop, length, slice_get, take, Some, None, Ok, if◌then◌else◌}
use Rattle.nor_device.specs.declared.step.Step.{Step}
use Rattle.partition_table.specs.declared.row.Row.{Row}
use Rattle.partition_table.specs.Layout.{Places, layout_of}
use Rattle.partition_table.specs.Table.{table_of}
use Rattle.otadata.specs.Choice.{active_of}
use Rattle.boot_select.specs.Boots.{entries_in}
use Rattle.rollback.specs.declared.rewrite.Rewrite.{Rewrite}
use Rattle.rollback.specs.Boots.{boots_in}
use Rattle.rollback.specs.Rewrite.{restated}
use Rattle.image_verify.specs.Held.{held}
use Rattle.boot_run.specs.declared.aims.Aim.{Aim}
use Rattle.boot_run.specs.Crashed.{LeavesVerdict}
use Rattle.boot_run.specs.Rewriting.{rewrite}
use Rattle.flash_steps.specs.Parts.{LiesInOpenPart, open_addresses}
use Rattle.update_steps.specs.Beside.{StandsBeside}
use Rattle.update_steps.specs.Driver.{driver_steps}
use Rattle.update_steps.specs.Session.{BootsOldOrNew, IsOpening}
use Rattle.ota_session.specs.declared.part.UpdatePart.{UpdatePart}
use Rattle.ota_session.specs.declared.part.UpdatePart.TheVariants.{Driver, Other}

-- ---- what the steps are for, and how far they have come

-- to install an application by an aim, of these bytes; or to confirm the one that runs, by this
-- rewrite of its entry
pub data Purpose : Type 0 where
  Install : Aim → List ℕ → Purpose
  Confirm : Rewrite → Purpose

-- the steps of the core that drives
abbrev pub steps_for : Places → Purpose → List Step
steps_for layout (Install aim image) = driver_steps layout aim image
steps_for layout (Confirm write) = rewrite layout.otadata write

-- the core that drives, the rows of the table and the layout by them, what the steps are for, those
-- that are made, and those to come
pub record Course : Type 0 where
  pub driver : ℕ
  pub rows : List Row
  pub layout : Places
  pub purpose : Purpose
  pub made : List Step
  pub rest : List Step

-- where nothing is made yet
abbrev pub course_from : ℕ → List Row → Places → Purpose → Course
course_from driver rows layout purpose = record {
  driver = driver;
  rows = rows;
  layout = layout;
  purpose = purpose;
  made = [];
  rest = steps_for layout purpose;
}

-- a step of the driver later
abbrev pub driven : Course → Step → Course
driven course step =
    record course { made = course.made ++ (step ∷ []); rest = drop 1 course.rest }

-- a step of a core later
abbrev pub course_after : Course → ℕ → Step → Course
course_after course c step = if c == course.driver then driven course step else course

-- ---- what each core may do

-- what decides of what a core may do: of the driver its steps, of the other core the rows
abbrev pub part_of : Course → ℕ → UpdatePart
part_of course c =
    if c == course.driver then Driver course.made course.rest else Other course.rows

-- a step is the first of these
abbrev pub IsNext : List Step → Step → Type 0
IsNext [] step = ⊥
IsNext (next ∷ rest) step = step ≡ next

-- the driver may make its next step, and the other core each step in a partition of its own
abbrev pub Grants : UpdatePart → Step → Type 0
Grants (Driver made rest) step = IsNext rest step
Grants (Other rows) step = LiesInOpenPart rows step

-- a step of its own later
abbrev pub part_after : UpdatePart → Step → UpdatePart
part_after (Driver made rest) step = Driver (made ++ (step ∷ [])) (drop 1 rest)
part_after (Other rows) step = Other rows

-- ---- which flashes are good

-- an application is installed beside the one that runs, which has the old image
pub record Installs (layout : Places) (first : List ℕ) (aim : Aim) (image : List ℕ)
    : Type 0 where
  pub old : List ℕ
  pub opens : IsOpening layout first aim old image

-- the rewrite makes the active entry VALID, and some application boots
pub record Confirms (layout : Places) (first : List ℕ) (write : Rewrite) : Type 0 where
  pub sector : ℕ
  pub active : active_of (entries_in layout first 0) (entries_in layout first 1) ≡ Some sector
  pub is : write ≡ restated 2 sector (entries_in layout first sector)
  pub boots : boots_in held layout first ≢ None

-- the flash at the opening is one for this purpose
abbrev pub IsFor : Places → List ℕ → Purpose → Type 0
IsFor layout first (Install aim image) = Installs layout first aim image
IsFor layout first (Confirm write) = Confirms layout first write

-- the duty was made for the flash at the opening: its table stands there, and the driver's steps
-- are those of its purpose
pub record IsMadeFor (first : List ℕ) (course : Course) : Type 0 where
  pub table : table_of (take 0xC00 (drop 0x8000 first)) (length first) ≡ Ok course.rows
  pub layout : layout_of course.rows ≡ Ok course.layout
  pub purpose : IsFor course.layout first course.purpose
  pub steps : steps_for course.layout course.purpose ≡ course.made ++ course.rest

-- what boots of what is left: the old application or the new one, or what a verdict on the entry
-- gives; or the entry that is written matches by chance
abbrev pub LeavesBoot : Places → List ℕ → Purpose → List ℕ → Type 0
LeavesBoot layout first (Install aim image) left =
    (old : List ℕ) (row : Row) → IsOpening layout first aim old image
    → slice_get layout.slots aim.slot ≡ Some row
    → BootsOldOrNew layout first aim row.size old image left
LeavesBoot layout first (Confirm write) left = LeavesVerdict layout first write left

-- a flash is good, where the duty was made for the one at the opening: outside the partitions of the
-- other core it is that one after the driver's steps made, or this torn by the driver's next step; it
-- boots what its purpose says, and in every case some application
pub record IsGood (first : List ℕ) (course : Course) (flash : List ℕ) : Type 0 where
  pub made_for : IsMadeFor first course
  pub stands : StandsBeside first course.made course.rest (open_addresses course.rows) flash
  pub boots : LeavesBoot course.layout first course.purpose flash
  pub some : boots_in held course.layout flash ≢ None
