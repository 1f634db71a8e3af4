use Rattle.image_layout.proofs.HeaderLemmas.{header_bytes-of, header_of-bytes}
use Rattle.image_layout.proofs.laws.headers_are_their_bytes.Goals as goal

-- a header is read where its bytes stand first
pub returns-clause-header : goal.returns-clause-header
returns-clause-header c = header_of-bytes

-- and its bytes are those that it was read from
pub returns-clause-bytes : goal.returns-clause-bytes
returns-clause-bytes c = header_bytes-of
