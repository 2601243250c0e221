-- Definitions that no clause of a public call cites.

-- the room of a writer
pub mod Room
