pub mod Numbers
pub mod Entries
pub mod Tracing
pub mod Comparing
pub mod Certified
pub mod CertifiedYes
pub mod FilesRead
