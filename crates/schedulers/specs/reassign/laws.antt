-- Laws, their lemmas and the words of lemmas.
pub mod AcceptedLaws
pub mod DispatchedLaws
pub mod FlagLaws
pub mod MayLeaveLaws
pub mod OrderLaws
pub mod Places
pub mod ProgressLaws
pub mod Recorded
pub mod SchedulerLaws
pub mod Valid
pub mod WentLaws
