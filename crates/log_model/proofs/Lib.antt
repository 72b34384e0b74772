-- The lemmas of the laws.
pub mod Grammar
pub mod LastLogged
pub mod Log
pub mod Marks
pub mod Parts
pub mod Ring
