-- Definitions that no clause of a public call cites: what private functions alone use.
-- where an attribute is written
pub mod Room
-- a message and its FINGERPRINT, as it is written
pub mod Ended
-- the number of bytes that a frame states
pub mod Frames
-- ChannelData and its padding, as it is written
pub mod Channels
