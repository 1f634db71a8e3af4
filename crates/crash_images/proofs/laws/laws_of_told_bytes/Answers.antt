use Rattle.crash_images.proofs.LeftOf.{left_of_torn, left_of_more, after_more, left_of_front, left_of_back, after_both}
use Rattle.crash_images.proofs.laws.laws_of_told_bytes.Goals as goal

-- each is the lemma of its name
pub returns-clause-torn : goal.returns-clause-torn
returns-clause-torn c = left_of_torn

pub returns-clause-more : goal.returns-clause-more
returns-clause-more c = left_of_more

pub returns-clause-after : goal.returns-clause-after
returns-clause-after c = after_more

pub returns-clause-front : goal.returns-clause-front
returns-clause-front c = left_of_front

pub returns-clause-back : goal.returns-clause-back
returns-clause-back c = left_of_back

pub returns-clause-both : goal.returns-clause-both
returns-clause-both c = after_both
