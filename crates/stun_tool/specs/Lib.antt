-- The definitions that the contracts of the program use, in reading order.

-- what `check` prints
pub mod Check
-- what `serve` prints for a script that has a wrong line
pub mod Serve
-- the verdict of `check` on an input, and the line for it
pub mod Verdict
-- the bytes that the digits of an input spell
pub mod Input
-- definitions that no clause of a public call uses: encodings of models, views of structs, steps of
-- the code
pub mod code
