-- Lemmas on records, words and whole sources.
mod RecordLemmas
mod WordLemmas
mod SourceLemmas
