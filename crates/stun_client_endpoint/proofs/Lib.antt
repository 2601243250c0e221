pub mod BodyLemmas
pub mod FormLemmas
pub mod MemoryLemmas
pub mod StepLemmas
pub mod WrittenLemmas
