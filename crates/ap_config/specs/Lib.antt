pub mod Faults
pub mod Configuration
pub mod Matching
