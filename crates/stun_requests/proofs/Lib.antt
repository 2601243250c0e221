-- Lemmas of the crate.
pub mod ReadBackLemmas
pub mod BodyLemmas
pub mod BidLemmas
pub mod ServedLemmas
pub mod FitLemmas
