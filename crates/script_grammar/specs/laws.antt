-- Laws, their lemmas and the words of lemmas.
pub mod Accepted
pub mod FirstFault
pub mod Speller
