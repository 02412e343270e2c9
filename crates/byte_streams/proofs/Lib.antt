pub mod Flow
pub mod MemoryLemmas
