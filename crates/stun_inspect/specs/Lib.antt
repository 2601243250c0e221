-- The definitions that the contracts of the program use, in reading order.

-- what each command returns and prints
pub mod Run
-- the attributes of a message one by one, and the attribute that hides each
pub mod Telling
-- whether a FINGERPRINT is that of its message
pub mod Fingerprint
-- what `decode` prints
pub mod Decode
-- the names of attributes in what it prints
pub mod Names
-- the attributes that must be understood
pub mod Registry
-- what `list` prints
pub mod Listed
-- what `verify` prints
pub mod Verify
-- the line that `verify` prints for each verdict
pub mod Verdict
-- what `verify` finds in a message, and the status for the only message of an input
pub mod Found
-- the counts of what it finds in several messages, and the status for them
pub mod Counts
-- which inputs are read as a raw message
pub mod Input
-- the offset at the front of a row of a dump
pub mod Dump
-- definitions of private functions
pub mod code
