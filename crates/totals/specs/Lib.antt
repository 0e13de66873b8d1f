pub mod Sums
pub mod Call
pub mod Distance
pub mod Private
