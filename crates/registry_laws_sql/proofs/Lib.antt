pub mod CascadeFacts
pub mod ChildFacts
pub mod JoinFacts
pub mod LinkFacts
pub mod PartFacts
pub mod PlaceFacts
pub mod SettleFacts
mod Examples
