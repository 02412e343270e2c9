pub mod SpanLemmas
pub mod TropicalYears
