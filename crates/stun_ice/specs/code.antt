-- Definitions that no clause of a public call cites.
pub mod Answerable
