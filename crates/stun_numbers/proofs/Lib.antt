-- Lemmas of this crate.
mod Texts
