-- Lemmas of the crate.
pub mod ConflictLemmas
pub mod NameLemmas
pub mod AcceptingLemmas
pub mod EarlyLemmas
pub mod RoleLemmas
pub mod BufferLemmas
pub mod CredentialLemmas
pub mod RoomLemmas
pub mod AnswerableLemmas
