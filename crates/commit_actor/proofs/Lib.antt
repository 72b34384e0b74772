mod Logs
mod Plans
mod Turns
mod Calls
