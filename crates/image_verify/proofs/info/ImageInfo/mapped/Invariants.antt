use Rattle.std.proofs.Common.{◌≡◌, drop}
use Rattle.image_verify.specs.Info.{later, mapped_in}
use Rattle.image_verify.proofs.info.ImageInfo.mapped.Given as goal

-- the last of those that are left, or else the last of those before
abbrev pub invariant-loop-note : goal.invariant-loop-note
invariant-loop-note l = later (mapped_in l.space (drop l.note-index l.notes)) l.last ≡ mapped_in l.space l.notes
