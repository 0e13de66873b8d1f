pub mod Sentences
mod Table
mod GapRuns
pub mod Distance
mod Starts
mod BaseLists
mod MethodNumbers
mod Days
mod Turns
pub mod Calls
mod Examples
pub mod Order
pub mod Monotone
pub mod Forgetting
