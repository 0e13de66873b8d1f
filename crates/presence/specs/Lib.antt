pub mod Form
pub mod Call
pub mod Private
