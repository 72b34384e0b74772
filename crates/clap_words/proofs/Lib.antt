mod Dashes
mod Entered
mod Law
mod Walks
