-- What several proofs share, by the sentence that it serves.

-- sentence 1: what a server answers in a run of calls, and what each address can tell of it
pub mod server_runs
-- sentence 2: a client and a server who meet, step by step, and what they come to
pub mod meetings
-- sentence 3: an agent that is driven, turn by turn, and the plan of each request
pub mod agent_runs
-- all three: tests that hold both, and two numbers in order
pub mod Tests
