pub mod KeptMoons
pub mod Measured
pub mod MonthPolynomials
pub mod PlanetTerms
pub mod PlanetWidths
