pub mod RowFacts
pub mod WalkFacts
pub mod WholeFacts
