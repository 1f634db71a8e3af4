-- A plan: what an image is made of.
use Rattle.std.specs.Prelude.{ℕ, Bool, List, map, string_bytes}
use Rattle.image_maker.specs.declared.part.PartLine.{PartLine}

-- a segment of a plan: its load address, and the name of the file that has its data
pub record PlannedPart : Type 0 where
  pub load : ℕ
  pub name : List ℕ

-- a plan: the entry address, bytes 2 and 3 of the header, whether a digest is appended, and the
-- segments
pub record Planned : Type 0 where
  pub entry : ℕ
  pub mode : ℕ
  pub size_freq : ℕ
  pub hash : Bool
  pub parts : List PlannedPart

-- a line of a plan without its memory
abbrev pub part_of : PartLine → PlannedPart
part_of line = record { load = line.load; name = string_bytes line.name }

-- lines of a plan without their memory
abbrev pub parts_of : List PartLine → List PlannedPart
parts_of lines = map part_of lines

-- the names of the files of a plan, in the order of its segments
abbrev pub part_names : Planned → List (List ℕ)
part_names plan = map (λ part. part.name) plan.parts
