use Rattle.image_layout.proofs.HeaderLemmas.{header_of-all}
use Rattle.image_layout.proofs.header.Header.put.Goals as goal

-- the bytes that were put are the header
pub returns-clause-exact : goal.returns-clause-exact
returns-clause-exact c = header_of-all _ c.args.self.now c.put_header.ensures.bytes c.put_header.ensures.sized
