use Rattle.std.proofs.Common.{arith, sym, ◌∙◌, subst}
use Rattle.std.specs.Prelude.{◌↔◌, ◌≡◌, IsTrue, Some, slice_get, ◌-◌}
use Rattle.std.proofs.lemmas.Bool.{false≢true}
use Rattle.rollback.specs.declared.rewrite.Rewrite.{Rewrite}
use Rattle.boot_run.specs.Rewriting.{rewrite}
use Rattle.update_steps.specs.Driver.{next_rewrite}
use Rattle.ota_session.proofs.ImageLemmas.{entry_test, erase_test, faulty_test, program_test, unmarked_test}
use Rattle.ota_session.proofs.next.is_image_step.Goals as goal

-- an erase
pub returns-then-number-erases : goal.returns-then-number-erases
returns-then-number-erases c = record {
  exact = erase_test c.args.otadata c.args.row.now (next_rewrite c.args.aim.now) c.args.image.now
      c.args.number c.sectors_of-erases.result c.args.step.now c.is_erase.result
      c.sectors_of-erases.ensures.exact c.if-number-erases.true c.is_erase.ensures.exact;
}

-- behind the erases for bytes that are none of an image
pub returns-then-not-is_marked : goal.returns-then-not-is_marked
returns-then-not-is_marked c = record {
  exact = unmarked_test c.args.otadata c.args.row.now (next_rewrite c.args.aim.now)
      c.args.image.now c.args.number c.sectors_of-erases.result c.args.step.now
      c.is_marked.result c.sectors_of-erases.ensures.exact c.if-number-erases.false
      (λ marked. false≢true (sym c.if-not-is_marked.true ∙ c.is_marked.ensures.exact.1 marked));
}

-- a program
pub returns-then-later-programs : goal.returns-then-later-programs
returns-then-later-programs c = record {
  exact = program_test c.args.otadata c.args.row.now (next_rewrite c.args.aim.now) c.args.image.now
      c.args.number c.sectors_of-erases.result c.args.step.now c.is_page_step.result
      c.sectors_of-erases.ensures.exact c.if-number-erases.false
      (c.is_marked.ensures.exact.0 c.if-not-is_marked.false)
      (omega (arith, c.if-later-programs.true, c.pages_of-programs.ensures.exact))
      c.is_page_step.ensures.exact;
}

-- behind the programs of bytes that show a fault
pub returns-then-not-is_whole : goal.returns-then-not-is_whole
returns-then-not-is_whole c = record {
  exact = faulty_test c.args.otadata c.args.row.now (next_rewrite c.args.aim.now) c.args.image.now
      c.args.number c.sectors_of-erases.result c.args.step.now c.is_whole.result
      c.sectors_of-erases.ensures.exact c.pages_of-programs.result
      c.pages_of-programs.ensures.exact c.if-number-erases.false
      (c.is_marked.ensures.exact.0 c.if-not-is_marked.false) c.if-later-programs.false
      (λ none. false≢true (sym c.if-not-is_whole.true ∙ c.is_whole.ensures.exact.1 none));
}

-- a step of the entry
pub returns : goal.returns
returns c = record {
  exact = entry_test c.args.otadata c.args.row.now (next_rewrite c.args.aim.now) c.args.image.now
      c.args.number c.sectors_of-erases.result c.args.step.now c.is_entry_step.result
      c.sectors_of-erases.ensures.exact c.pages_of-programs.result
      c.pages_of-programs.ensures.exact c.if-number-erases.false
      (c.is_marked.ensures.exact.0 c.if-not-is_marked.false) c.if-later-programs.false
      (c.is_whole.ensures.exact.0 c.if-not-is_whole.false)
      (subst (λ (write : Rewrite). IsTrue c.is_entry_step.result
      ↔ (slice_get (rewrite c.args.otadata write)
      (c.args.number - c.sectors_of-erases.result - c.pages_of-programs.result)
      ≡ Some c.args.step.now)) c.next_rewrite.ensures.exact c.is_entry_step.ensures.exact);
}
