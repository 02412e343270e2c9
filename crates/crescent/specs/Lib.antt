-- of rise_set, re-exported
pub use Rattle.rise_set.specs.Widths as SkyWidths
pub use Rattle.rise_set.specs.declared.hindu as HinduSky
pub mod Visibilities
pub mod Widths
pub mod Sightings
