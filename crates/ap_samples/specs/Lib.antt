pub mod Words
pub mod Lines
pub mod Numbers
pub mod Directives
pub mod DirectiveExamples
pub mod Declaring
pub mod Creating
pub mod Copying
