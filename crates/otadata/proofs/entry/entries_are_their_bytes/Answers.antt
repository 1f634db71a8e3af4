-- An entry and its 32 bytes say the same.
use Rattle.otadata.proofs.EntryLemmas.{entry_bytes-of, entry_of-bytes}
use Rattle.otadata.proofs.entry.entries_are_their_bytes.Goals as goal

pub returns-clause-entry : goal.returns-clause-entry
returns-clause-entry c = entry_of-bytes

pub returns-clause-bytes : goal.returns-clause-bytes
returns-clause-bytes c = entry_bytes-of
