-- Definitions that no clause of a public call cites: how private functions change a client.
pub mod Acting
