pub mod Entries
pub mod Call
pub mod Writing
pub mod Private
