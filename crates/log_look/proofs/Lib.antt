pub mod Fields
pub mod Looks
