-- The parts of an image as the maker holds them: lines of a plan, and the bytes of their files.
use Rattle.std.specs.Prelude.{ℕ, List, map, Vec}
use Rattle.std.specs.declared.alloc.Global.{Global}
use Rattle.image_maker.specs.declared.part.PartLine.{PartLine}
use Rattle.image_maker.specs.Placing.{Part, joined}
use Rattle.image_maker.specs.Plan.{Planned, parts_of}

-- the bytes of files
abbrev pub files_of : List (Vec ℕ Global) → List (List ℕ)
files_of files = map (λ file. file.items) files

-- the parts that lines and files are
abbrev pub all_parts : List PartLine → List (Vec ℕ Global) → List Part
all_parts lines files = joined (parts_of lines) (files_of files)

-- the parts that a plan and files are
abbrev pub plan_parts : Planned → List (Vec ℕ Global) → List Part
plan_parts plan files = joined plan.parts (files_of files)
