pub mod Requests
pub mod SampleDays
pub mod Samples
pub mod SpelledRequests
pub mod Years
