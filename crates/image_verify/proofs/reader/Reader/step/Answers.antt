use Rattle.image_verify.proofs.Bounds.{header_few}
use Rattle.image_verify.proofs.reader.Reader.step.Goals as goal

-- the header is not whole between two steps
pub in_header-requires-clause-few : goal.in_header-requires-clause-few
in_header-requires-clause-few c = header_few c.args.self.now c.requires.known c.in-Header.is
