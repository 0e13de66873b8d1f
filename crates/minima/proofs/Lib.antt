pub mod Sentences
mod Minima
mod Points
mod Pieces
pub mod Lengths
mod SegmentLine
mod AllSegments
mod Neighbours
mod Values
pub mod Distance
pub mod Acceptance
mod Examples
pub mod Order
