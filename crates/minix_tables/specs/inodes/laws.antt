-- Laws, their lemmas and the words of lemmas.
pub mod MapLaws
