-- Lemmas of the crate.
pub mod AcceptedLemmas
pub mod FeatureLemmas
pub mod FrontLemmas
pub mod HandedLemmas
pub mod AnsweredLemmas
pub mod DroppedLemmas
pub mod ChallengeLemmas
pub mod NonceLemmas
pub mod OfferLemmas
pub mod KeyLemmas
pub mod SignerLemmas
pub mod SignedLemmas
pub mod ServedLemmas
pub mod VerifyingLemmas
pub mod TheirNonceLemmas
pub mod EarlierLemmas
pub mod UnderstoodLemmas
pub mod UnnamedLemmas
pub mod OwnSettingsLemmas
pub mod ReadyLemmas
pub mod RealmLemmas
pub mod FoundLemmas
pub mod IdentifiedLemmas
pub mod CauseLemmas
pub mod CausedLemmas
pub mod ResumeLemmas
pub mod JudgementLemmas
-- a response that is ended was refused nothing
pub mod EndedLemmas
-- results of a batch, while its answers grow
pub mod BatchLemmas
-- responses that take what is added
pub mod RoomLemmas
pub mod OfferedLemmas
