-- Lemmas of the crate.
pub mod AnsweringLemmas
pub mod ChosenLemmas
pub mod DowngradeLemmas
pub mod JudgingLemmas
pub mod OfferLemmas
pub mod SigningLemmas
pub mod StandingLemmas
