pub mod AddressLemmas
pub mod AsBox
pub mod Steps
pub mod Words
