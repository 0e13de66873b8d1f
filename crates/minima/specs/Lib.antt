pub mod Blocks
pub mod TurningPoints
pub mod Line
pub mod Call
pub mod Private
