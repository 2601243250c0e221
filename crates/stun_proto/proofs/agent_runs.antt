-- Sentence 3: an agent that is driven, turn by turn, and the plan of each request. In the order to
-- read it.

-- what an answer of the agent says of the reason to refuse that its contract names
pub mod Sending
-- how much is left to do: the slots that are left, and the ends
pub mod Work
-- the least moment that is awaited
pub mod AwaitsLemmas
-- the next awaited moment, and that a turn leaves none up to its own
pub mod NextLemmas
-- a turn, call by call
pub mod TurnLemmas
-- the turns at awaited moments, and a whole run, turn by turn
pub mod DriveLemmas
-- what calls leave of the transactions, beside what they count
pub mod AfterCalls
-- one request among others: what a call of the agent leaves of it
pub mod OneTransaction
-- a request that is outstanding, in an agent: what each call of a turn leaves of it
pub mod Outstanding
-- an event that is not aimed at an outstanding request leaves it as it was
pub mod NotAimed
-- the steps of one transaction among all steps
pub mod OwnSteps
-- a run up to one of its events, and what it keeps
pub mod RunLemmas
-- the plan of a request, transmission by transmission, and the moments that it awaits
pub mod PlanLemmas
-- a request that nothing disturbs keeps its plan
pub mod ScheduleLaw
-- no request of an id is outstanding: what leaves it so
pub mod Absent
-- all steps of an id from an agent on: none comes after their first end
pub mod Said
-- what a run keeps of an agent that is never asked for a request of an id
pub mod Stays
-- all steps of a request that is asked once: there are none before it is asked, and none after its
-- end
pub mod Once
-- a driven run keeps the plan of each of its requests, whoever makes the calls
pub mod Driven
-- the steps of a run are counted one by one: each call adds the tally of its step, and sums of
-- tallies are counts over the steps
pub mod Counting
-- a run that stopped goes on: what it left awaits no moment below the next event's
pub mod GoingOn
-- each list of events has a run: each call that is not the last of a turn leaves less to do
pub mod Existence
-- a loop that is never late makes a driven run: until the moment that it is told to wait until, no
-- moment is awaited
pub mod AgentLoopLemmas
-- when a request is due after some timeouts
pub mod Dues
-- a request in whatever calls its user makes: each of its steps comes in time
pub mod AnyCalls
