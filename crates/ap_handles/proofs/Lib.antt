pub mod Keys
pub mod Legality
pub mod Holding
pub mod Counts
pub mod Turns
pub mod Places
pub mod Samples
