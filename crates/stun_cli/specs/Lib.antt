-- The definitions that the contracts of this crate use, in reading order.

-- how often an input is read, and why reading it fails
pub mod Input
-- what a line of output is
pub mod Line
-- what writing a text leaves
pub mod Output
-- the verdict on bytes under keys
pub mod Verdict
-- the exit statuses
pub mod Status
