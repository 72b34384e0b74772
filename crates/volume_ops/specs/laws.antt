-- Laws of volumes: what the walk tests, and what it says of a volume.
pub mod Alike
pub mod DeviceReads
pub mod MarksLaws
pub mod ReadsLaws
pub mod Rising
