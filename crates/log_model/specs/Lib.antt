pub mod Marks
pub mod Grammar
pub mod LastLogged
pub mod Log
pub mod Parts
pub mod Ring
