-- The definition computes.
use Rattle.std.proofs.Common.{refl}
use Rattle.otadata.specs.Polynomial.{left_after}
use Rattle.otadata.specs.Crc.{bits, crc, divided, generator, number_of}
use Rattle.otadata.proofs.crc.crc_of_known_sequences.Goals as goal

pub returns-clause-zero : goal.returns-clause-zero
unfolding left_after bits crc divided generator number_of
returns-clause-zero c = refl

pub returns-clause-one : goal.returns-clause-one
unfolding left_after bits crc divided generator number_of
returns-clause-one c = refl

pub returns-clause-two : goal.returns-clause-two
unfolding left_after bits crc divided generator number_of
returns-clause-two c = refl

pub returns-clause-three : goal.returns-clause-three
unfolding left_after bits crc divided generator number_of
returns-clause-three c = refl

pub returns-clause-last : goal.returns-clause-last
unfolding left_after bits crc divided generator number_of
returns-clause-last c = refl
