pub mod Fitting
pub mod TwoSteps
pub mod Closeness
