-- Definitions that no clause of a public call cites: codings of models, views of private structs,
-- steps of the code.
pub mod AlgorithmSource
pub mod AttributeLaws
pub mod Message
pub mod PasswordAlgorithms
pub mod Walk
pub mod WriteVec
pub mod XoredOctets
