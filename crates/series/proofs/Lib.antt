pub mod Views
pub mod Tests
pub mod Runs
pub mod Alone
pub mod SegmentParts
pub mod Refusing
pub mod AtTen
pub mod Bytes
pub mod Gaps
pub mod Firsts
pub mod Pairs
pub mod FreshRuns
pub mod Agreeing
pub mod FirstDay
mod Examples
