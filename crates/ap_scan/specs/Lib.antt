pub mod Winners
pub mod Limits
pub mod Candidates
pub mod Sweep
pub mod Reads
