-- Lemmas of the program.
mod DecodeLemmas
mod InputLemmas
mod LineLemmas
mod RunLemmas
mod TellingLemmas
