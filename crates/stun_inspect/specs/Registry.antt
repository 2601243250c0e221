-- The attributes that must be understood, grouped by RFC: the name of each attribute in IANA's
-- registry, and the form in which its value is printed.
use Rattle.std.specs.Prelude.{ℕ, List, codes, Option, Some, None, ◌==◌, if◌then◌else◌}
use Rattle.std.specs.Option.{option_or}
use Rattle.stun_inspect.specs.declared.registry.Form.{Form}
use Rattle.stun_inspect.specs.declared.registry.Form.TheVariants.{Address, Algorithm, Bytes}
use Rattle.stun_inspect.specs.declared.registry.Form.TheVariants.{ChangeRequest, Channel, Error}
use Rattle.stun_inspect.specs.declared.registry.Form.TheVariants.{EvenPort, Family, Flag, Lifetime}
use Rattle.stun_inspect.specs.declared.registry.Form.TheVariants.{Nonce, Number, ResponsePort, Sha1}
use Rattle.stun_inspect.specs.declared.registry.Form.TheVariants.{Sha256, Text, Token, Transport}
use Rattle.stun_inspect.specs.declared.registry.Form.TheVariants.{Types, Userhash, XorAddress}
use Rattle.stun_inspect.specs.declared.registry.Registered.{Registered}

-- the name of an attribute and the form of its value
abbrev pub Entry : Type 0
Entry = List ℕ × Form

-- the entry of an attribute
abbrev pub entry_of : Registered → Entry
entry_of registered = (registered.name.now, registered.form)

-- the attributes of STUN (RFC 8489, section 14)
abbrev pub stun_entry : ℕ → Option Entry
stun_entry number =
    if number == 0x0001 then Some (codes "MAPPED-ADDRESS", Address)
    else if number == 0x0006 then Some (codes "USERNAME", Text)
    else if number == 0x0008 then Some (codes "MESSAGE-INTEGRITY", Sha1)
    else if number == 0x0009 then Some (codes "ERROR-CODE", Error)
    else if number == 0x000A then Some (codes "UNKNOWN-ATTRIBUTES", Types)
    else if number == 0x0014 then Some (codes "REALM", Text)
    else if number == 0x0015 then Some (codes "NONCE", Nonce)
    else if number == 0x001C then Some (codes "MESSAGE-INTEGRITY-SHA256", Sha256)
    else if number == 0x001D then Some (codes "PASSWORD-ALGORITHM", Algorithm)
    else if number == 0x001E then Some (codes "USERHASH", Userhash)
    else if number == 0x0020 then Some (codes "XOR-MAPPED-ADDRESS", XorAddress)
    else None

-- the attributes of TURN (RFC 8656, section 18), of its connections over TCP (RFC 6062, section
-- 6.2.1), and of its tokens (RFC 7635, section 6.2)
abbrev pub turn_entry : ℕ → Option Entry
turn_entry number =
    if number == 0x000C then Some (codes "CHANNEL-NUMBER", Channel)
    else if number == 0x000D then Some (codes "LIFETIME", Lifetime)
    else if number == 0x0012 then Some (codes "XOR-PEER-ADDRESS", XorAddress)
    else if number == 0x0013 then Some (codes "DATA", Bytes)
    else if number == 0x0016 then Some (codes "XOR-RELAYED-ADDRESS", XorAddress)
    else if number == 0x0017 then Some (codes "REQUESTED-ADDRESS-FAMILY", Family)
    else if number == 0x0018 then Some (codes "EVEN-PORT", EvenPort)
    else if number == 0x0019 then Some (codes "REQUESTED-TRANSPORT", Transport)
    else if number == 0x001A then Some (codes "DONT-FRAGMENT", Flag)
    else if number == 0x001B then Some (codes "ACCESS-TOKEN", Bytes)
    else if number == 0x0022 then Some (codes "RESERVATION-TOKEN", Token)
    else if number == 0x002A then Some (codes "CONNECTION-ID", Number)
    else None

-- the attributes of ICE (RFC 8445, section 16.1)
abbrev pub ice_entry : ℕ → Option Entry
ice_entry number =
    if number == 0x0024 then Some (codes "PRIORITY", Number)
    else if number == 0x0025 then Some (codes "USE-CANDIDATE", Flag)
    else None

-- the attributes of NAT behavior discovery (RFC 5780, section 7)
abbrev pub behavior_entry : ℕ → Option Entry
behavior_entry number =
    if number == 0x0003 then Some (codes "CHANGE-REQUEST", ChangeRequest)
    else if number == 0x0026 then Some (codes "PADDING", Bytes)
    else if number == 0x0027 then Some (codes "RESPONSE-PORT", ResponsePort)
    else None

-- the entry of a type that must be understood, unless only an obsolete RFC has the type
abbrev pub required_entry : ℕ → Option Entry
required_entry number =
    option_or (stun_entry number)
    (option_or (turn_entry number) (option_or (ice_entry number) (behavior_entry number)))
