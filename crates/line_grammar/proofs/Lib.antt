pub mod EventsLemmas
pub mod CallsLemmas
