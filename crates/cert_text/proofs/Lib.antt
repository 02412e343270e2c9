pub mod Writing
pub mod OneText
pub mod PaddedDigits
