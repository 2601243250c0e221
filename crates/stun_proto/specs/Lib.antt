-- What the contracts of this crate say, in reading order.

-- the three sentences of this library: read this first
pub mod Headline
-- the words of these sentences, and where each is defined
pub mod Words
-- sentence 1: what one address can tell of a run, by its own calls and the replies to them
pub mod Replies
-- sentence 1: which messages of a run are accepted
pub mod Accepting
-- sentence 1: whatever other addresses do
pub mod Isolation
-- what is appended after the integrity attribute of a message (sections 14.5 to 14.7)
pub mod Appending
-- addresses that are divided among several servers
pub mod Shards
-- what a server answers to a list of calls (RFC 8489, section 9.2.4)
pub mod Serving
-- sentence 1: a server whose calls its user makes one by one
pub mod ServerLoop
-- sentence 1: the same if the users are in a database
pub mod DatabaseLoop
-- a database with two users, and a message that is judged with one of them
pub mod StoredExample
-- the result of signing a message for an address
pub mod Signing
-- sentence 2: what a client and a server can agree on (section 9.2)
pub mod Best
-- sentence 2: how the meeting of a ready client with its server ends
pub mod Honest
-- a client and a server that meet, step by step over the bytes of their messages
pub mod Negotiation
-- what a run of a meeting answers and leaves
pub mod Negotiating
-- where both sides of a meeting are after each step
pub mod Sides
-- when both sides have the same challenge
pub mod Matching
-- sentence 2: a client and a server whose users make their calls one by one
pub mod MeetingLoop
-- a client that must hash its user's name, and its server
pub mod MeetingExample
-- a nonce that has expired, and the one that takes its place (sections 9.2.4 and 9.2.5)
pub mod Renewal
-- a client and a server that know each other: what they exchange from then on
pub mod Session
-- sentence 2, of any method and attributes: a client that is new to a server
pub mod Contact
-- the messages of a contact and of a short session
pub mod SessionExample
-- sentence 3: the plan of a request, and what disturbs it (sections 6.2.1 and 6.2.2)
pub mod Schedule
-- the steps of a driven agent: times, IDs and bytes
pub mod Steps
-- a driven run: which calls are made of an agent, when, and what they answer
pub mod Run
-- one request and its plan, spelled out
pub mod Examples
-- laws of all runs: each list of events has exactly one, and each request keeps its plan
pub mod RunLaws
-- sentence 3: an agent that its user polls in a loop, on time or late
pub mod AgentLoop
-- sentence 3: an agent in whatever loop its user has, call by call
pub mod AnyLoop
-- what the steps of a run add to the counters of its agent
pub mod Counters
-- a run that stops because an allocation failed, and how it is continued
pub mod Stopped
-- a call of a server as a value: what its equality compares, and what is shown of it
pub mod CallValues
-- an event as a value: what its equality compares
pub mod EventValues
-- definitions that no clause of a public call cites: encodings of models, views of structs, steps
-- of the code
pub mod code
