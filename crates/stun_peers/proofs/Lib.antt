-- Lemmas of the crate.

-- a message that is signed and ends with FINGERPRINT
pub mod SealedLemmas
-- a check, and what its receiver makes of it
pub mod PeerLemmas
-- its answer
pub mod MappedLemmas
pub mod HeardLemmas
