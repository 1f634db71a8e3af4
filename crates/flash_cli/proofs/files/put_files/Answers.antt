use Rattle.std.proofs.Common.{arith}
use Rattle.flash_cli.proofs.PutLemmas.{puts_next}
use Rattle.flash_cli.proofs.files.put_files.Goals as goal

-- one more file was put
pub loop-file-preserved : goal.loop-file-preserved
loop-file-preserved g c = record {
  puts = puts_next _ _ _ c.args.files.now c.loop-file.file-index c.file-item.result (omega arith)
      c.file-item.is c.loop-file.invariant.puts c.in_ok-put_file.ensures.ok;
  later = omega arith;
}
