-- Definitions that no clause of a public call cites: encodings of models, views of the code's own
-- structs, steps of the code.
pub mod Calls
pub mod FirstAnswers
pub mod Meetings
pub mod Sides
pub mod Signed
pub mod Work
