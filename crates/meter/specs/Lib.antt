pub mod Rule
pub mod Call
pub mod Bits
pub mod Steps
pub mod Private
