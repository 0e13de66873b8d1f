pub mod Rounding
mod Reciprocals
pub mod Whole
pub mod Signs
pub mod Fractions
pub mod Quantities
pub mod Scanning
pub mod Recursion
pub mod Pairwise
pub mod Sorting
pub mod Ranks
pub mod Selection
mod Examples
