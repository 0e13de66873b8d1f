pub mod Rule
pub mod Call
pub mod Private
