pub mod Copying
pub mod Gathering
