use Rattle.image_maker.proofs.PlanLemmas.{made_of_text}
use Rattle.image_maker.proofs.laws.made_images_are_whole.Goals as goal

-- the plan of a text has load addresses of 32 bits, and without a fault what it makes is whole
pub returns : goal.returns
returns c = record { whole = made_of_text }
