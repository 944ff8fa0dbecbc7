pub mod Older
pub mod Moved
pub mod Migration
pub mod Plain
pub mod Steps
