-- What the contracts of this crate say: they have the definitions of `stun_types`.

-- definitions that no clause of a public call cites
pub mod code
