-- Lemmas of the crate.

-- what datagrams do to two agents is what their roles say
pub mod RunLemmas
