pub mod Arrivals
pub mod Concerns
pub mod Histories
pub mod Laws
pub mod Levels
pub mod Lists
pub mod Runs
pub mod Without
