pub mod ImagesLemmas
pub mod RecoveryLemmas
pub mod CallsLemmas
