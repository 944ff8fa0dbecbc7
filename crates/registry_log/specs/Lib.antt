pub mod Targets
pub mod Lines
pub mod Waitings
pub mod Logs
pub mod Laws
pub mod TargetLaws
pub mod LookUps
