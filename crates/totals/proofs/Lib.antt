mod Sentences
mod Examples
mod Summing
pub mod Outcomes
pub mod Distance
pub mod Order
