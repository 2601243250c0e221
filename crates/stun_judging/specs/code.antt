-- Definitions that no clause of a public call cites: codings of models, views of the code's own
-- structs, steps of the code.
pub mod Algorithms
pub mod Claims
pub mod Feature
pub mod Found
pub mod Judged
pub mod LastAttributes
pub mod NameIndex
pub mod ReadingSeen
pub mod Realm
pub mod Registered
pub mod UserSecret
pub mod Users
