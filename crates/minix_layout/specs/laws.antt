-- Laws, their lemmas and the words of lemmas.
pub mod BitLaws
pub mod InodeLaws
pub mod Places
pub mod SlotLaws
pub mod SuperLaws
