use Rattle.std.proofs.Common.{◌≤◌, ◌∙◌, sym, ap, length, arith}
use Rattle.nor_device.specs.declared.step.Step.TheVariants.{Erase, Program, Block}
use Rattle.nor_device.specs.Flash.{end_of}
use Rattle.nor_device.specs.BegunView.{step_of}
use Rattle.nor_device.proofs.begun_step.BegunStep.make_on.Goals as goal

-- the step that stands there is the one of its kind
pub erase_sector-requires : goal.erase_sector-requires
erase_sector-requires c = let begun = c.self.inside in record {
  inside = c.requires.inside (Erase begun.number)
      (sym c.self.view_is ∙ ap (λ kind. step_of kind begun.number begun.page) c.in-Erase.is);
}

pub program-requires-clause-inside : goal.program-requires-clause-inside
program-requires-clause-inside c =
    let begun = c.self.inside in
    let inside : end_of (Program begun.number begun.page) ≤ length c.args.flash.now.bytes =
    c.requires.inside (Program begun.number begun.page)
    (sym c.self.view_is ∙ ap (λ kind. step_of kind begun.number begun.page) c.in-Program.is) in
    omega (arith, inside, ap length c.bytes.ensures.bytes)

pub erase_block-requires : goal.erase_block-requires
erase_block-requires c = let begun = c.self.inside in record {
  inside = c.requires.inside (Block begun.number)
      (sym c.self.view_is ∙ ap (λ kind. step_of kind begun.number begun.page) c.in-Block.is);
}
