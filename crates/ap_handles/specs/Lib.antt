pub mod Machine
pub mod Legal
pub mod Held
pub mod Publishing
pub mod Index
pub mod Counting
pub mod Calls
