pub mod Direct
pub mod Histories
pub mod OrderToTheMedium
pub mod Merging
pub mod Next
pub mod Received
pub mod KeptRows
pub mod Rows
mod Walks
pub mod OriginIds
pub mod Single
pub mod QuietDevices
