-- Lemmas of the crate.
pub mod AddingLemmas
pub mod BodyLemmas
mod CausedLemmas
mod ClientLawLemmas
pub mod ExtendedLemmas
pub mod FoundLemmas
mod HandleLawLemmas
mod HearingLemmas
mod IceLawLemmas
mod IdLemmas
mod KeyLemmas
mod NumberLemmas
mod ReplyLemmas
mod RoleLemmas
mod ServerLawLemmas
mod ReasonLemmas
mod SettingLawLemmas
mod UserLawLemmas
