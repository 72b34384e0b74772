pub mod Acting
pub mod Answering
pub mod GoingOut
pub mod Plainly
pub mod UnderWay
