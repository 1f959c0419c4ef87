pub mod Flags
pub mod Faults
pub mod CommandLine
