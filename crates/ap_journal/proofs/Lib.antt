pub mod Files
pub mod Standing
pub mod Laid
pub mod Committing
pub mod Heads
pub mod Places
pub mod Appending
