-- Numbers: fractions, expressions and their values at each depth, the bounds of enclosures.
pub mod Depth
pub mod Fractions
pub mod Expressions
pub mod Bounds
pub mod Relations
pub mod Series
pub mod Octants
pub mod Roots
pub mod Arcs
pub mod Polynomials
pub mod Ranges
pub mod Terms
