pub mod Near
pub mod Whole
pub mod Fraction
pub mod Arithmetic
pub mod Scan
pub mod Lists
pub mod Order
