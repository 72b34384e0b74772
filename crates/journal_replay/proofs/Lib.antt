mod Results
mod Faults
mod Fillings
mod Steps
