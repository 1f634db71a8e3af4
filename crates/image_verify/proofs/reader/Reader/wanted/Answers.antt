use Rattle.std.proofs.Common.{arith}
use Rattle.image_verify.proofs.Bounds.{header_few}
use Rattle.image_verify.proofs.reader.Reader.wanted.Goals as goal

-- the header is not whole
pub overflow_sub-result : goal.overflow_sub-result
overflow_sub-result c = omega (arith, c.len.ensures.value, header_few c.args.self.now c.requires.known c.in-Header.is)
