-- Definitions that no clause of a public call cites: codings of models, views of the code's own
-- structs, steps of the code.
pub mod AddressCode
pub mod Client
pub mod ClientKept
pub mod ClientStep
pub mod Judging
pub mod Places
pub mod Reasons
pub mod Seen
pub mod ShortTermKept
pub mod Supported
pub mod Validation
