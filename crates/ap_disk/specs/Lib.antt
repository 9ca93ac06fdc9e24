pub mod Crashes
pub mod Calls
pub mod Clocks
pub mod Sides
pub mod History
pub mod CallLog
