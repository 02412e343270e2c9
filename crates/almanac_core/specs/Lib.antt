pub mod Almanac
pub mod East
pub mod Sample
