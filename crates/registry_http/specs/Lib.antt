pub mod Services
pub mod Hiding
pub mod Unseen
pub mod Alone
