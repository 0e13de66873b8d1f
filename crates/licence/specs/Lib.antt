pub mod Rule
pub mod Call
pub mod Kept
pub mod Private
