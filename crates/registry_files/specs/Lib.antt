pub mod Asked
pub mod Copies
pub mod Heads
pub mod Lines
