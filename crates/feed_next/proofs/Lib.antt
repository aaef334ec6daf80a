pub mod Drawing
pub mod Refusing
