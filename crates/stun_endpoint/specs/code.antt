-- Definitions that no clause of a public call cites.
pub mod Arriving
pub mod Bits
pub mod Judges
pub mod Waiting
pub mod Found
pub mod Judgements
pub mod Earlier
pub mod Keys
pub mod Refusing
pub mod Room
