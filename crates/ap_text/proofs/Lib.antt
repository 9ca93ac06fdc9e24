pub mod Deciding
pub mod Folding
pub mod Members
pub mod Slashes
pub mod Walking
pub mod WildExamples
