pub mod Sentences
pub mod Steps
mod Examples
mod Values
mod Floats
