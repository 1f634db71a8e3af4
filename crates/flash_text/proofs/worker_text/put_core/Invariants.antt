use Rattle.std.proofs.Common.{◌≡◌, ◌++◌, drop, length}
use Rattle.flash_text.specs.WorkerText.{AreInside, core_lines}
use Rattle.flash_text.proofs.worker_text.put_core.Given as goal

-- the lines so far, and those of the entries to come, are all lines
abbrev pub invariant-loop-entry : goal.invariant-loop-entry
invariant-loop-entry l = record {
  lines : l.out.items ++ core_lines l.core l.journal.bytes (drop l.entry-index l.journal.entries)
      ≡ l.initial.out.items ++ core_lines l.core l.journal.bytes l.journal.entries;
  inside : AreInside (length l.journal.bytes) (drop l.entry-index l.journal.entries);
}
