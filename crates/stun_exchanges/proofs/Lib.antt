-- Lemmas of the crate.

-- bytes that are all below 128 are ASCII
pub mod Ascii
-- the client
pub mod AgreementLemmas
pub mod AnsweredLemmas
pub mod RefusalLemmas
-- the server
pub mod UnsignedLemmas
pub mod InTimeLemmas
pub mod OtherSecretLemmas
-- a challenge that the server writes
pub mod ChallengeParts
pub mod ChallengeLemmas
-- a signed request
pub mod AgreedLemmas
-- a signed answer
pub mod SealedLemmas
pub mod PageLemmas
-- an instance
pub mod InstanceLemmas
