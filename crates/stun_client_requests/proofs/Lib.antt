pub mod IndexLemmas
pub mod LawLemmas
pub mod NumberLemmas
pub mod RequestLemmas
pub mod TimelyLemmas
