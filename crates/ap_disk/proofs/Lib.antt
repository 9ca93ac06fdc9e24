pub mod Tearing
pub mod Logs
pub mod Moments
pub mod Replays
