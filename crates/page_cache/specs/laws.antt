-- Laws of lists of pages.
pub mod Maps
pub mod Order
pub mod Next
