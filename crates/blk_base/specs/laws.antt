-- Laws, their lemmas and the words of lemmas.
pub mod Members
pub mod Filling
pub mod Cutting
