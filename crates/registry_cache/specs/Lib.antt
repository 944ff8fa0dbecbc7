pub mod Inside
pub mod Laws
pub mod Caches
pub mod Digests
