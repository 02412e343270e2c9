pub mod Dealing
pub mod Joining
pub mod PieceLemmas
pub mod AnswerLemmas
pub mod RowLemmas
pub mod NearLemmas
