-- Definitions that no clause of a public call cites: codings of models, views of private structs,
-- steps of the code.
pub mod Algorithm
pub mod Begun
pub mod CredentialsKeyBytes
pub mod KeyBytes
pub mod Padded
