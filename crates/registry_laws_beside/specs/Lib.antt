pub mod Beside
pub mod Held
pub mod Unseen
pub mod Lives
