-- What the contracts of this crate say.

-- two agents, what they have sent each other, and what each datagram changes
pub mod Datagrams
