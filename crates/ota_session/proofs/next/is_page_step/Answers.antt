use Rattle.std.proofs.Common.{sym, ◌∙◌, Some}
use Rattle.nor_device.specs.declared.step.Step.TheVariants.{Program}
use Rattle.flash_steps.specs.Steps.{write_steps}
use Rattle.ota_session.proofs.NumberLemmas.{number_is, write_number}
use Rattle.ota_session.proofs.next.is_page_step.Goals as goal

-- the program with this number is the one of the page
pub returns : goal.returns
returns c =
    let at = c.args.at in
    let bytes = c.args.bytes.now in
    let number = c.args.number in
    let page = c.page_at-from in
    record {
      exact = number_is (write_steps at bytes) number (Program page.result.0 page.result.1.now)
          c.args.step.now c.is_program.result
          (write_number at bytes number c.requires.within
          ∙ (λ i. Some (Program (sym page.ensures.from i) (sym page.ensures.bytes i))))
          c.is_program.ensures.exact;
    }
