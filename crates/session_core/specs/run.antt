pub mod CodeHosts
pub mod Beginning
pub mod End
pub mod code
pub mod machine
pub mod parts
