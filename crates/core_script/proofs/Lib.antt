mod ActionLemmas
mod ReadLemmas
mod LineLemmas
