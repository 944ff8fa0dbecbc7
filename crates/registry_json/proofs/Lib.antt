pub mod MapFacts
pub mod ObjectFacts
pub mod NumberFacts
pub mod ReadingFacts
