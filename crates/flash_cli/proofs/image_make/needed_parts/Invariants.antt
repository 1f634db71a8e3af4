use Rattle.std.proofs.Common.{◌≡◌, ◌≤◌, length}
use Rattle.image_maker.specs.Plan.{part_names}
use Rattle.flash_cli.proofs.PartLemmas.{ReadSoFar}
use Rattle.flash_cli.proofs.image_make.needed_parts.Given as goal

-- what the rest of the plan's parts come to behind those that were read, all of them do
abbrev pub invariant-loop-i : goal.invariant-loop-i
invariant-loop-i g l = record {
  reads : ReadSoFar (g.S.Store.files l.fn.store) (part_names l.plan) l.i l.parts.items;
  each : length l.parts.items ≡ l.i;
  same : g.S.Store.files l.store ≡ g.S.Store.files l.fn.store;
  later : g.S.Store.faults l.fn.store ≤ g.S.Store.faults l.store;
}
