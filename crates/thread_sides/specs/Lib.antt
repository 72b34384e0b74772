pub mod Opened
pub mod Admitted
pub mod SchedReplay
pub mod DeviceReplay
