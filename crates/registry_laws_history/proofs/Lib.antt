mod AccessFacts
pub mod ApartFacts
pub mod FreedFacts
pub mod LastingFacts
mod LegalFacts
pub mod LeftFacts
pub mod ListedFacts
pub mod MomentFacts
pub mod PublishFacts
pub mod RunFacts
pub mod StatusFacts
pub mod TagFacts
pub mod TimeKeyFacts
pub mod VersionFacts
