-- Sentence 1: what a server answers in a run of calls, and what each address can tell of it. In the
-- order to read it.

-- the digest of a message verifies where it is the HMAC of what it covers
pub mod Digests
-- one message is validated
pub mod ValidateLemmas
-- each message of a run that is accepted is validated, and no other
pub mod AcceptingLemmas
-- what an address can tell after each step of its own
pub mod Sights
-- what an address can tell depends on its own calls alone
pub mod IsolationLemmas
-- what an address can tell by the replies is what it can tell by the calls
pub mod RepliesLemmas
-- one more call of a run
pub mod ServedCalls
-- a message that is signed in any writer
pub mod AnyWriter
-- one call that a user makes of a server, by the clauses of that call
pub mod MadeLemmas
-- each call that a user makes on a server is the call of a run
pub mod ServerLoopLemmas
-- the same where the users are in a data base
pub mod DatabaseLemmas
-- two messages with one reading are answered alike, alone and in each run
pub mod AppendedLemmas
-- a server of some addresses takes each call that concerns one of them, so the run of that address
-- is the same
pub mod ShardsLemmas
-- the three calls of a client, as the server of its meeting replies to them
pub mod ServedExample
-- one call of a server whose users are in a data base
pub mod StoredExample
