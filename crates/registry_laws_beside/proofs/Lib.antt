mod BesideFacts
mod HeldFacts
mod UnseenFacts
mod LifeFacts
