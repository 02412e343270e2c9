pub mod Kernel
pub mod Forms
pub mod Widths
