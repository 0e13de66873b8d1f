mod Demand3
pub mod OneRun
mod TotalsOfRuns
mod Sharp
