mod Sentences
pub mod WrittenRecords
pub mod Accepting
mod Examples
mod EntryOutcomes
mod Soundness
mod Fronts
mod Walk
mod WritingWalk
mod Reading
mod Putting
mod EntriesRead
mod OtherLists
