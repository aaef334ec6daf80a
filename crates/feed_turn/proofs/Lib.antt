pub mod Putting
pub mod Turning
