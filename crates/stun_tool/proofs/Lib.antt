-- Lemmas of the program.
mod Writing
mod VerdictLines
