-- The types of attributes (RFC 8489, section 18.3).
use Rattle.std.specs.Prelude.{ℕ}

-- USERNAME (section 14.3)
abbrev pub USERNAME : ℕ
USERNAME = 0x0006

-- MESSAGE-INTEGRITY (section 14.5)
abbrev pub MESSAGE_INTEGRITY : ℕ
MESSAGE_INTEGRITY = 0x0008

-- ERROR-CODE (section 14.8)
abbrev pub ERROR_CODE : ℕ
ERROR_CODE = 0x0009

-- REALM (section 14.9)
abbrev pub REALM : ℕ
REALM = 0x0014

-- NONCE (section 14.10)
abbrev pub NONCE : ℕ
NONCE = 0x0015

-- MESSAGE-INTEGRITY-SHA256 (section 14.6)
abbrev pub MESSAGE_INTEGRITY_SHA256 : ℕ
MESSAGE_INTEGRITY_SHA256 = 0x001C

-- PASSWORD-ALGORITHM (section 14.12)
abbrev pub PASSWORD_ALGORITHM : ℕ
PASSWORD_ALGORITHM = 0x001D

-- USERHASH (section 14.4)
abbrev pub USERHASH : ℕ
USERHASH = 0x001E

-- XOR-MAPPED-ADDRESS (section 14.2)
abbrev pub XOR_MAPPED_ADDRESS : ℕ
XOR_MAPPED_ADDRESS = 0x0020

-- PASSWORD-ALGORITHMS (section 14.11)
abbrev pub PASSWORD_ALGORITHMS : ℕ
PASSWORD_ALGORITHMS = 0x8002

-- FINGERPRINT (section 14.7)
abbrev pub FINGERPRINT : ℕ
FINGERPRINT = 0x8028
