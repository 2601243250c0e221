-- Definitions that no clause of a public call cites: codings of models, views of the code's own
-- structs, steps of the code.
pub mod Awaited
pub mod StatisticsFields
pub mod Transactions
pub mod Tree
