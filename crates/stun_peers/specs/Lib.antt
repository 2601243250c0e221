-- What the contracts of this crate say.

-- two agents, and what a check of one and its answer mean to the other
pub mod Peers
