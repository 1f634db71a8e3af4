use Rattle.std.proofs.Common.{◌∙◌, ap, sym, Ok}
use Rattle.flash_cli.proofs.BootLemmas.{choice_boots, choice_none}
use Rattle.flash_cli.proofs.choice.choice_in.Goals as goal

-- this application boots
pub returns-in-Ok : goal.returns-in-Ok
returns-in-Ok c = record {
  exact = ap Ok c.choice_with.ensures.exact
      ∙ sym (choice_boots c.args.flash.now c.args.layout.now _ c.in-Ok.booted.info
      c.in-Ok.ensures.boots);
}

-- nothing boots
pub returns-in-Err : goal.returns-in-Err
returns-in-Err c = record {
  exact = sym (choice_none c.args.flash.now c.args.layout.now c.in-Err.ensures.boots);
}
