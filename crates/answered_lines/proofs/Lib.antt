pub mod LineLemmas
pub mod AnswerLemmas
pub mod PrefixLemmas
pub mod PieceLemmas
