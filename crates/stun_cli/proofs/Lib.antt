-- Lemmas of this crate.
mod Reading
pub mod Unbroken
mod Writing
