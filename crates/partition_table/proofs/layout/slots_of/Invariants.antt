use Rattle.std.proofs.Common.{◌≡◌, ◌-◌, ◌++◌, length}
use Rattle.partition_table.specs.Layout.{slots_from}
use Rattle.partition_table.proofs.layout.slots_of.Given as goal

-- the slots so far, and those that are still to come, are all
abbrev pub invariant-loop-k : goal.invariant-loop-k
invariant-loop-k l = record {
  slots : l.slots.items ++ slots_from (l.most - l.k) l.k l.rows ≡ slots_from l.most 0 l.rows;
  count : length l.slots.items ≡ l.k;
}
