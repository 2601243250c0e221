-- Definitions that no clause of a public call cites: what representations and private functions
-- alone cite.

-- the value that a handle has
pub mod Handle
-- the user who was found, as the code reads one
pub mod Found
-- what is built from the settings that a caller passes
pub mod Building
-- the error for a check that is not written
pub mod Unwritten
