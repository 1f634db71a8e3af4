use Rattle.image_maker.proofs.MemoryLemmas.{no_image, no_plan}
use Rattle.image_maker.proofs.laws.memory_is_no_refusal.Goals as goal

-- each refusal has another reason
pub returns : goal.returns
returns c = record { plan = no_plan; image = no_image }
