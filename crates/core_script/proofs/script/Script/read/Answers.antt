use Rattle.std.proofs.Common.{◌+◌, sym, ap, ◌∙◌}
use Rattle.std.proofs.lemmas.Result.{err_from_is_err_and}
use Rattle.core_script.specs.ScriptText.{after_lines, script_of_text}
use Rattle.core_script.proofs.ReadLemmas.{line_stops}
use Rattle.core_script.proofs.script.Script.read.Goals as goal

-- a line that is refused
pub returns-in_err-add : goal.returns-in_err-add
unfolding script_of_text
returns-in_err-add c =
    let p = err_from_is_err_and c.from_residual.result c.from_residual.ensures.1 in
    record {
      exact = rw (p.1, p.2)
          (line_stops (c.loop-line.number + 1) c.loop-line.script _ _ _ _ c.in-Some.ensures.exact
          c.loop-line.invariant.lines c.in_err-add.field-0.0 c.in_err-add.ensures.err);
    }

-- no line is left
pub returns : goal.returns
unfolding script_of_text
returns c =
    record {
      exact = sym (ap (after_lines (c.loop-line.number + 1) c.loop-line.script) c.in_default.ensures.exact)
          ∙ c.loop-line.invariant.lines;
    }
