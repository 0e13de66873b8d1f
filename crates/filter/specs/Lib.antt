pub mod Methods
pub mod Passes
pub mod Daily
pub mod Call
pub mod Distance
pub mod Forgetting
pub mod Private
