-- Laws, their lemmas and the words of lemmas.
pub mod BoundLaws
pub mod CacheLaws
pub mod CacheSteps
pub mod CountLaws
pub mod EpochOrder
pub mod FlushLaws
pub mod MemberLaws
pub mod ReachableLaws
pub mod SeenLaws
pub mod StateLaws
pub mod StepLaws
pub mod Valid
