-- How the fields of a duty show in a contract.
use Rattle.std.specs.Prelude.{◌<◌, ◌^◌, ℕ, List, drop, length, take}
use Rattle.partition_table.specs.declared.row.Row.{Row}
use Rattle.partition_table.specs.Layout.{Places}
use Rattle.ota_session.specs.declared.task.Task.{Task}
use Rattle.ota_session.specs.declared.task.Task.TheVariants as tasks
use Rattle.ota_session.specs.Course.{Confirm, Course, Install, Purpose, steps_for}

-- what a task is for
abbrev pub purpose_of : Task → Purpose
purpose_of (tasks.Install aim image) = Install aim.now image.now
purpose_of (tasks.Confirm rewrite) = Confirm rewrite.now

-- the course, where so many steps are made
abbrev pub course_by : ℕ → List Row → Places → Task → ℕ → Course
course_by driver rows layout task done =
    let steps = steps_for layout (purpose_of task) in
    record {
      driver = driver;
      rows = rows;
      layout = layout;
      purpose = purpose_of task;
      made = take done steps;
      rest = drop done steps;
    }

-- an image has fewer bytes than an address has values
abbrev pub IsTask : Places → Task → Type 0
IsTask layout (tasks.Install aim image) = length image.now < 2 ^ 32
IsTask layout (tasks.Confirm rewrite) = Unit {0}
