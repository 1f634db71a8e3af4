use Rattle.image_layout.proofs.HeaderLemmas.{header_bytes-all}
use Rattle.image_layout.proofs.header.Header.read.Goals as goal

-- 24 bytes are those of the header that was read
pub returns-clause-bytes : goal.returns-clause-bytes
returns-clause-bytes c = header_bytes-all c.args.bytes.now _ c.read_header.ensures c.told-bytes c.fits-bytes
