pub mod ZonesLemmas
pub mod InodesLemmas
