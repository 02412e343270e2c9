pub mod KnownFacts
