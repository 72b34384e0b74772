-- Laws, their lemmas and the words of lemmas.
pub mod BoundLaws
pub mod CountLaws
pub mod LogFacts
pub mod LogSteps
pub mod MemberLaws
pub mod OrderLaws
pub mod ReachableLaws
pub mod SeenLaws
pub mod StateLaws
pub mod StepLaws
pub mod Valid
