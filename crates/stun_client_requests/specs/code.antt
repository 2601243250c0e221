-- Definitions that no clause of a public call cites: what always holds for the code's own structs.
pub mod Indices
