-- Lemmas of the crate.
pub mod EventLemmas
pub mod AcceptedLemmas
pub mod OutcomeLemmas
pub mod ListLemmas
pub mod ExampleLemmas
