-- Definitions that no clause of a public call uses: encodings of models, views of the code's own
-- structs, steps of the code.
pub mod Output
pub mod Run
