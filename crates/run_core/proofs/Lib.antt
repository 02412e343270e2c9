pub mod DecidedLemmas
pub mod OneSample
pub mod OneUpgrade
pub mod OneCheck
pub mod SampleRefusals
pub mod CheckLemmas
pub mod WorkLemmas
pub mod UpgradeLemmas
