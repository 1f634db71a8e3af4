use Rattle.std.proofs.Common.{◌∙◌, sym, ap, length}
use Rattle.nor_device.specs.Marks.{marked_count}
use Rattle.nor_device.proofs.MarksLemmas.{flags_of-zeros, length-no_marks, none_marked}
use Rattle.nor_device.proofs.marks.Marks.none.Goals as goal

-- words of zeros are no marks
pub invariant_of-result : goal.invariant_of-result
invariant_of-result c = sym (ap marked_count flags_of-zeros ∙ none_marked)

pub returns-clause-exact : goal.returns-clause-exact
returns-clause-exact c = flags_of-zeros

pub returns-clause-length : goal.returns-clause-length
returns-clause-length c = ap length flags_of-zeros ∙ length-no_marks
