pub mod CascadeLaws
pub mod Cascades
pub mod JoinLaws
pub mod Joins
pub mod Laws
pub mod PartLaws
pub mod Places
