-- What no clause of a public call cites: views of structs, and the entries of tables.
pub mod AlgorithmSource
pub mod Crc32
pub mod Told
pub mod UnknownSource
