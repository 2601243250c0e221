-- Lemmas of the crate.
pub mod AlgorithmListLemmas
mod AnswerLemmas
mod BeginLemmas
mod ChangedLemmas
mod Crc32Lemmas
mod CuttingLemmas
pub mod FingerprintLemmas
mod FramingLemmas
mod OnceLemmas
mod PacketLemmas
pub mod RoomLemmas
mod SpelledLemmas
mod ToldLemmas
mod TurnLemmas
mod TypesLemmas
pub mod UnknownLemmas
