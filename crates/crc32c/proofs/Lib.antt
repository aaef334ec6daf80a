pub mod Xor
pub mod Laws
pub mod Theorems
pub mod Tables
