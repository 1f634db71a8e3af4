use Rattle.std.proofs.Common.{IfSome, Result, Ok, Err, IfOk, subst, sym}
use Rattle.std.specs.Result.{result_ok}
use Rattle.partition_table.specs.declared.bad.TableBad.{TableBad}
use Rattle.partition_table.specs.Layout.{IsPlaced, Places}
use Rattle.boot_run.proofs.tests.flagged_layout.Goals as goal

-- a layout, where there is one
some_of : (P : Places → Type 0) (r : Result Places TableBad) → IfOk r P → IfSome (result_ok r) P
some_of P (Ok layout) is = is
some_of P (Err why) is = is

-- it is placed
pub returns-in-Ok : goal.returns-in-Ok
returns-in-Ok c = record {
  placed = subst (λ o. IfSome o (λ layout. IsPlaced layout 0x100000)) (sym c.ok.ensures.value)
      (some_of (λ layout. IsPlaced layout 0x100000) c.layout.result
      (c.layout.ensures.placed 0x100000 c.in-Ok.ensures.fits));
}
