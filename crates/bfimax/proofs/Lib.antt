mod Sentences
mod Examples
mod Stretch
mod Spells
mod Calls
pub mod Order
