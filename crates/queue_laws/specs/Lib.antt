pub mod QueueLaws
pub mod EntryLaws
