-- Definitions that no clause of a public call cites: what private functions and representations
-- alone cite.

-- what a handle owns
pub mod Handle
