pub mod Places
pub mod Splitting
pub mod Decimals
pub mod Gathering
