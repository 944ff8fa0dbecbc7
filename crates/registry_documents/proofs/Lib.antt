pub mod FrontFacts
pub mod LawFacts
pub mod LoopFacts
pub mod SameFacts
pub mod ShownFacts
