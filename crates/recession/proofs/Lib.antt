mod Sentences
mod Examples
mod Days
mod Walk
mod Selection
mod Counting
mod Cumulative
mod Median
mod Tallying
mod Listing
mod Consequences
mod Outcomes
mod Groups
pub mod Order
