pub mod Rule
pub mod Call
pub mod Distance
pub mod Private
