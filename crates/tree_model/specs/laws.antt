-- Laws of trees and calls.
pub mod Alike
pub mod Examples
pub mod FewerZones
pub mod Listing
pub mod MapOrder
pub mod MapsLaws
pub mod Sums
