-- Lemmas of the crate.

-- what is begun is a page
pub mod BegunLemmas
-- the 420 of a server
pub mod UnknownLemmas
-- what an accepted request comes to
pub mod AnsweredLemmas
-- a nonce that has expired
pub mod StaleLemmas
-- one request of a session
pub mod SessionLemmas
