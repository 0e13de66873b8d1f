mod Sentences
mod Columns
mod Choosing
mod Chains
mod Distance
mod Loops
mod Calls
mod Examples
pub mod Order
