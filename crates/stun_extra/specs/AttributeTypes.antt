-- The types of attributes that calls of this library read or write: of STUN (RFC 8489, section
-- 18.3), of ICE (RFC 8445, section 16.1) and of TURN (RFC 8656, section 18).
use Rattle.std.specs.Prelude.{ℕ}

-- UNKNOWN-ATTRIBUTES (RFC 8489, section 14.13)
abbrev pub UNKNOWN_ATTRIBUTES : ℕ
UNKNOWN_ATTRIBUTES = 0x000A

-- SOFTWARE (RFC 8489, section 14.14)
abbrev pub SOFTWARE : ℕ
SOFTWARE = 0x8022

-- PRIORITY (RFC 8445, section 16.1)
abbrev pub PRIORITY : ℕ
PRIORITY = 0x0024

-- USE-CANDIDATE (RFC 8445, section 16.1)
abbrev pub USE_CANDIDATE : ℕ
USE_CANDIDATE = 0x0025

-- ICE-CONTROLLED (RFC 8445, section 16.1)
abbrev pub ICE_CONTROLLED : ℕ
ICE_CONTROLLED = 0x8029

-- ICE-CONTROLLING (RFC 8445, section 16.1)
abbrev pub ICE_CONTROLLING : ℕ
ICE_CONTROLLING = 0x802A

-- CHANNEL-NUMBER (RFC 8656, section 18.1)
abbrev pub CHANNEL_NUMBER : ℕ
CHANNEL_NUMBER = 0x000C

-- XOR-PEER-ADDRESS (RFC 8656, section 18.3)
abbrev pub XOR_PEER_ADDRESS : ℕ
XOR_PEER_ADDRESS = 0x0012

-- REQUESTED-TRANSPORT (RFC 8656, section 18.8)
abbrev pub REQUESTED_TRANSPORT : ℕ
REQUESTED_TRANSPORT = 0x0019
