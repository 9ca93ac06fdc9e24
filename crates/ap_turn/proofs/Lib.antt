pub mod Prefixes
pub mod Keeps
pub mod Settled
