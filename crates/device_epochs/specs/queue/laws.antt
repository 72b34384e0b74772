-- Laws of what a device keeps of its commands, their lemmas and the words of lemmas.
pub mod CompletionLaws
pub mod EpochLaws
pub mod PendingLaws
pub mod QueueLaws
