-- Sentence 2: a client and a server who meet, step by step, and what they come to. In the order to
-- read it.

-- what `best` answers is the strongest algorithm that both lists have
pub mod Strongest
-- what a client chooses from the list of a server is the strongest algorithm of both
pub mod Chosen
-- where no two present users share a hash, a hash names its user
pub mod Hashes
-- the first refusal of a server that holds
pub mod Refusals
-- what a server answers to a request without a digest, and to one that is complete
pub mod Answered
-- a nonce that stands at an address does so after calls that leave it
pub mod Standing
-- an address keeps some nonce of the settings after calls that leave its place: the nonce may end,
-- and another one be made
pub mod Keeping
-- what a side makes of a message, or want of memory
pub mod Heard
-- what the lemmas on negotiation need of nonces, and of messages that were signed
pub mod Signed
-- one message is written anew and signed
pub mod SigningLemmas
-- bytes that are all below 128 are ASCII
pub mod Ascii
-- what is read of each message of a run, and that it can be signed, by the laws on what signing
-- adds
pub mod SignedRuns
-- what each side adds under a short realm, name and nonce is small
pub mod Small
-- what the sides of a meeting sign are messages
pub mod Typed
-- a request that is signed under a challenge is accepted where the challenge matches
pub mod Matched
-- how a run of a meeting ends, or goes on
pub mod Runs
-- what a meeting answers, and how it leaves both sides, by what it comes to
pub mod Outcomes
-- an honest client and its server come to the strongest algorithm of both, and short names are
-- signed
pub mod Meeting
-- a meeting that ends with both sides' acceptance has gone through each of its steps
pub mod PathLemmas
-- from the last call to the first: what is left by the clauses of the calls is what is left of the
-- meeting
pub mod MeetingLoopLemmas
-- after one error of code 438 a request is accepted under the new nonce
pub mod Renewed
-- each request and each response is accepted while the nonce lasts, and after it is renewed
pub mod SessionLemmas
-- a new client and its server come to the strongest algorithm of both, by messages of any method
pub mod ContactLemmas
-- a server with one user, whose hash no other has
pub mod ExampleLemmas
-- there are messages for contacts and sessions
pub mod SessionMessages
pub mod ContactExample
