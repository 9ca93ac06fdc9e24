pub mod Walks
pub mod Grammars
pub mod Repeats
pub mod Parsing
pub mod Parts
