pub mod AgreementFacts
pub mod GrantFacts
pub mod HidingFacts
pub mod LawFacts
pub mod LevelFacts
pub mod SpellingFacts
pub mod WholeFacts
