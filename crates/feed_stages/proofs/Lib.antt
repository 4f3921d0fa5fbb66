mod Cases
mod Faults
