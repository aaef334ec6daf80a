pub mod Scanning
pub mod Stepping
