pub mod Content
pub mod Format
pub mod Reading
pub mod Reads
pub mod Laws
pub mod View
pub mod Writing
