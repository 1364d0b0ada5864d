pub mod QueueLaws
pub mod EntryLaws
pub mod TurnLaws
