mod Turns
mod KeyPlaces
mod Places
mod Keyed
mod OfFiles
mod Stored
mod Framed
mod Steps
