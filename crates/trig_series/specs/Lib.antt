pub mod Kernel
pub mod Points
