mod PoolFacts
mod GroupFacts
pub mod SocketFacts
mod StateFacts
mod VisitFacts
mod WorldFacts
mod PhaseFacts
mod IdleFacts
mod TimeFacts
mod OrderFacts
mod RestFacts
mod HeldFacts
mod RemainderFacts
mod WokenFacts
mod QueryFacts
pub mod RoundFacts
mod ComingFacts
mod OutgoingFacts
