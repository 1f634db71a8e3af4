use Rattle.flash_cli.proofs.FlashLemmas.{factory_made}
use Rattle.flash_cli.proofs.laws.a_made_flash_is_as_written_at_a_factory.Goals as goal

-- an image that shows no fault is whole, and fits the factory partition
pub returns : goal.returns
returns c = record { whole = factory_made c.whole_images_show_no_fault.ensures }
