pub mod Crc32c
pub mod Mask
pub mod Table
pub mod Bytes
pub mod Promises
