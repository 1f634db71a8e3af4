use Rattle.std.proofs.Common.{ap}
use Rattle.partition_table.specs.Layout.{Places}
use Rattle.flash_cli.proofs.FlashLemmas.{factory_inside}
use Rattle.flash_cli.proofs.flash_make.flash_of_table.Goals as goal

-- the factory partition ends inside the flash
pub flash_in_factory-requires-clause-inside : goal.flash_in_factory-requires-clause-inside
flash_in_factory-requires-clause-inside c =
    factory_inside c.args.size c.in-Ok.layout _ (c.in-Ok.ensures.placed c.args.size c.requires.fits)
    (ap (λ (l : Places). l.factory) c.layout-in-Ok.view_is)
