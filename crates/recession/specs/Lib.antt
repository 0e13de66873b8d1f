pub mod Limbs
pub mod Ratios
pub mod Call
pub mod Private
