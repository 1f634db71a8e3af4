use Rattle.std.proofs.Common.{◌≤◌, map, take}
use Rattle.pipe_ends.specs.MemStore.{named_bytes}
use Rattle.flash_cli.specs.Answer.{TellsPuts}
use Rattle.flash_cli.proofs.files.put_files.Given as goal

-- the files so far were put
abbrev pub invariant-loop-file : goal.invariant-loop-file
invariant-loop-file g l = record {
  puts : TellsPuts (g.S.Store.files l.fn.store) (take l.file-index (map named_bytes l.files))
      (g.S.Store.files l.store);
  later : g.S.Store.faults l.fn.store ≤ g.S.Store.faults l.store;
}
