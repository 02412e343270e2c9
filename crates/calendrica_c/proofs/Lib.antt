pub mod Words
pub mod HandingLemmas
