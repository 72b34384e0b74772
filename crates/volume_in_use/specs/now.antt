-- What a change touched, with its room.
pub mod Noted
