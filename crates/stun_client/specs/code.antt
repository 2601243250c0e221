-- Definitions that no clause of a public call cites: views of the code's own structs.
pub mod Kept
pub mod Signing
pub mod Offers
