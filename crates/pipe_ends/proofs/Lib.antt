-- Lemmas on the words of specs/.
pub mod FilesLemmas
pub mod HexLemmas
mod NumberLemmas
mod WordLemmas
mod SplitLemmas
